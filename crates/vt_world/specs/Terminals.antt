-- The screen of each console, in a list by the console's number: None if it isn't allocated.
use Rattle.std.specs.Prelude.{ℕ, Bool, true, false, ◌+◌, min, count_by, List, [], Option, Some, None, option_map, slice_index_or, slice_set}
use Rattle.key_machine.specs.declared.key_modes.KeyModes.{KeyModes}
use Rattle.vt_screen.specs.Run.{after, outs_of_run, start}
use Rattle.vt_screen.specs.Tape.{with_change}
use Rattle.vt_canvas.specs.Change.{Change}
use Rattle.vt_canvas.specs.Screen.{Screen}
use Rattle.vt_canvas.specs.declared.out.Out.{Out}
use Rattle.vt_canvas.specs.declared.out.Out.TheVariants as outs
use Rattle.vt_units.specs.Run.{Reached}

-- a console's screen with the rest of its text, and its count of BELs
pub record TerminalState : Type 0 where
  pub emu : Reached Screen
  pub bells : ℕ

-- a new console: the start screen, and no BEL
abbrev pub new_terminal : ℕ → ℕ → TerminalState
new_terminal rows cols = record { emu = start rows cols; bells = 0 }

abbrev pub is_bell : Out → Bool
is_bell outs.Bell = true
is_bell out = false

-- the count of BELs after these side effects: each BEL adds one, up to the greatest number of 32
-- bits
abbrev pub bell_count_after : ℕ → List Out → ℕ
bell_count_after bells said = min 4294967295 (bells + count_by is_bell said)

-- bytes are run on the screen, and their BELs are counted
abbrev pub written_on : List ℕ → TerminalState → TerminalState
written_on bytes t = record {
  emu = after t.emu bytes;
  bells = bell_count_after t.bells (outs_of_run t.emu bytes);
}

abbrev pub terminal_at : List (Option TerminalState) → ℕ → Option TerminalState
terminal_at terminals n = slice_index_or terminals n None

-- the screen of a console with the rest of its text, and its count of BELs: 0 if it isn't allocated
abbrev pub emu_of : Option TerminalState → Option (Reached Screen)
emu_of terminal = option_map (λ t. t.emu) terminal

abbrev pub bells_of : Option TerminalState → ℕ
bells_of None = 0
bells_of (Some t) = t.bells

abbrev pub or_new : ℕ → ℕ → Option TerminalState → TerminalState
or_new rows cols None = new_terminal rows cols
or_new rows cols (Some t) = t

-- console n has a terminal: a new one if it had none
abbrev pub with_start : ℕ → ℕ → ℕ → List (Option TerminalState) → List (Option TerminalState)
with_start n rows cols terminals =
    slice_set terminals n (Some (or_new rows cols (terminal_at terminals n)))

-- the side effects of these bytes, written to a console
abbrev pub said_of : Option TerminalState → List ℕ → List Out
said_of None bytes = []
said_of (Some t) bytes = outs_of_run t.emu bytes

-- the modes of a screen that keys depend on; those of a start screen if there is none
abbrev pub key_modes_of : Option TerminalState → KeyModes
key_modes_of None = record { cursor = false; keypad = false; repeat = true; newline = false }
key_modes_of (Some t) = record {
  cursor = t.emu.state.state.cursor;
  keypad = t.emu.state.state.keypad;
  repeat = t.emu.state.state.repeat;
  newline = t.emu.state.state.newline;
}

-- these bytes are written to console n, if it has a terminal
abbrev pub after_write : ℕ → List ℕ → List (Option TerminalState) → List (Option TerminalState)
after_write n bytes terminals =
    slice_set terminals n (option_map (written_on bytes) (terminal_at terminals n))

-- a call has changed the screen
abbrev pub altered_by : Change → TerminalState → TerminalState
altered_by m t = record t { emu = with_change m t.emu }

-- the screen of console n is changed by a call, if it has a terminal
abbrev pub after_screen_change : ℕ → Change → List (Option TerminalState) → List (Option TerminalState)
after_screen_change n m terminals =
    slice_set terminals n (option_map (altered_by m) (terminal_at terminals n))

-- console n has no terminal
abbrev pub without_terminal : ℕ → List (Option TerminalState) → List (Option TerminalState)
without_terminal n terminals = slice_set terminals n None
