-- The outcome of `cook`: docs/reference/cooked.md.
use Rattle.std.specs.Prelude.{◌≡◌, ℕ, List, [], ◌∷◌, ◌++◌, codes, decimal}
use Rattle.std.specs.List.{flat_map}
use Rattle.cooked.specs.Given.{Item, byte, line, signal}
use Rattle.cooked.specs.Termios.{usual}
use Rattle.cooked.specs.Whole.{all_echo, all_items, rest}
use Rattle.vt_journal.specs.Hex.{hex_text}
use Rattle.vt_journal.specs.Journal.{line_text}
use Rattle.vt_tool.specs.Outcome.{Outcome, fine_text}

-- a line of a name and bytes
abbrev pub bytes_line : List ℕ → List ℕ → List ℕ
bytes_line name bytes = line_text (name ∷ hex_text bytes ∷ [])

-- the line of an item; the usual settings give no single bytes
abbrev pub item_line : Item → List ℕ
item_line (line bytes) = bytes_line (codes "line") bytes
item_line (byte b) = bytes_line (codes "byte") (b ∷ [])
item_line (signal s) = line_text (codes "signal" ∷ decimal s ∷ [])

-- the items of all typed bytes, the bytes that are left, and the echo, by the usual settings
abbrev pub cook_text : List ℕ → List ℕ
cook_text typed =
    flat_map item_line (all_items usual typed)
    ++ (bytes_line (codes "rest") (rest usual typed)
    ++ bytes_line (codes "echo") (all_echo usual typed))

-- no input is refused
abbrev pub GivesCooked : List ℕ → Outcome → Type 0
GivesCooked typed outcome = outcome ≡ fine_text (cook_text typed)
