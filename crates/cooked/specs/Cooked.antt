-- A line discipline as contracts see it.
use Rattle.std.specs.Prelude.{◌≡◌, ◌≤◌, ◌+◌, ℕ, Bool, false, not, ◌==◌, List, [], ◌∷◌, ◌++◌, length, if◌then◌else◌}
use Rattle.std.specs.List.{concat}
use Rattle.vt_base.specs.Bytes.{Text}
use Rattle.cooked.specs.Fresh.{fresh, most}
use Rattle.cooked.specs.KeptText.{kept_characters, kept_bytes}
use Rattle.cooked.specs.Termios.{IsValid}
use Rattle.cooked.specs.declared.termios.Termios.{Termios}

-- the settings, the fresh bytes, and the line that the last push gave; the kept bytes are those of the fresh
-- ones
pub record Typing : Type 0 where
  pub termios : Termios
  pub fresh : List ℕ
  pub line : List ℕ

abbrev pub make_typing : Termios → List ℕ → List ℕ → Typing
make_typing t fresh line = record { termios = t; fresh = fresh; line = line }

-- the held characters stand for the fresh bytes, and there is room for a full line
pub record Stands (t : Termios) (typed : Text) (held : List (List ℕ)) (line : Text) : Type 0 where
  pub valid : IsValid t
  pub stays : fresh t typed.bytes ≡ typed.bytes
  pub held_are : held ≡ kept_characters t typed.bytes
  pub bytes : length (concat held) ≤ length typed.bytes
  pub characters : length held ≤ length typed.bytes
  pub typed_room : length typed.bytes + typed.room ≡ most
  pub line_room : length line.bytes + line.room ≡ 4096

-- there is a last byte, and it isn't the erase byte: a byte after it may go on with it
abbrev pub ends_open : ℕ → List ℕ → Bool
ends_open erase [] = false
ends_open erase (b ∷ []) = not (b == erase)
ends_open erase (b ∷ c ∷ more) = ends_open erase (c ∷ more)

-- the line at an end: the kept bytes, and 0A if the end belongs to the line
abbrev pub ended_line : Typing → Bool → List ℕ
ended_line v with_end =
    if with_end then kept_bytes v.termios v.fresh ++ 0x0A ∷ [] else kept_bytes v.termios v.fresh
