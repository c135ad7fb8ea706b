-- The modes of a screen that C passes, as the key machine takes them.
use Rattle.std.specs.Prelude.{ℕ, ◌==◌, Bool, not, replicate}
use Rattle.std.specs.Str.{bytes_eq}
use Rattle.key_machine.specs.declared.key_modes.KeyModes.{KeyModes}
use Rattle.c_calls.specs.declared.vt_modes.VtModes.{VtModes}

-- a mode is a number in C: 0 is off
abbrev pub is_set : ℕ → Bool
is_set n = not (n == 0)

abbrev pub modes_of : VtModes → KeyModes
modes_of m = record {
  cursor = is_set m.cursor_keys;
  keypad = is_set m.keypad;
  repeat = is_set m.repeat;
  newline = is_set m.newline_mode;
}

-- the spare bytes are 0
abbrev pub is_modes : VtModes → Bool
is_modes m = bytes_eq m.spare (replicate 4 0)
