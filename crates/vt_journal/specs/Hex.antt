-- Bytes as a journal spells them. This project's own.
use Rattle.std.specs.Prelude.{ℕ, List, [], ◌∷◌, codes}
use Rattle.std.specs.List.{flat_map}
use Rattle.vt_base.specs.Digits.{hex_byte}

-- two digits for each byte, or a dash for none
abbrev pub hex_text : List ℕ → List ℕ
hex_text [] = codes "-"
hex_text (b ∷ bytes) = flat_map hex_byte (b ∷ bytes)
