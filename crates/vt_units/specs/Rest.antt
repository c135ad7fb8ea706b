-- The rest: the part of an unfinished text that is kept.
use Rattle.std.specs.Prelude.{ℕ, true, false, List, [], ◌∷◌, ◌++◌}
use Rattle.vt_units.specs.declared.mode.Mode.{Mode}

-- the bytes since the last unit or drop, without those that acted or were ignored, and the mode at the
-- first of them. For a string they are the bytes that opened it, and the ESC if it stands last; the mode is
-- then the one at that ESC
pub record Rest : Type 0 where
  pub mode : Mode
  pub text : List ℕ

-- no text
abbrev pub fresh : Mode → Rest
fresh m = record { mode = m; text = [] }

abbrev pub rest_with_byte : Rest → ℕ → Rest
rest_with_byte r b = record r { text = r.text ++ b ∷ [] }

-- the mode at the start
abbrev pub start_mode : Mode
start_mode = record { utf8 = true; display = false }
