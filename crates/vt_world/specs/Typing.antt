-- The deeds of a scan byte. Rules that the manual pages leave open are this project's own.
use Rattle.std.specs.Prelude.{ℕ, ◌==◌, ◌&&◌, ◌||◌, Bool, false, List, [], ◌∷◌, filter, slice_index_or, Option, Some, None, if◌then◌else◌}
use Rattle.std.specs.List.{range_with_len}
use Rattle.key_machine.specs.Step.{Step, key_step}
use Rattle.key_machine.specs.declared.key_out.KeyOut.{KeyOut}
use Rattle.key_machine.specs.declared.key_out.KeyOut.TheVariants as key_out
use Rattle.scan_codes.specs.Scan.{Scan, bytes_after, event_after, start_scan}
use Rattle.scan_codes.specs.declared.key_event.KeyEvent.{KeyEvent}
use Rattle.vt_procs.specs.Callers.{caller_at, has_open, is_live}
use Rattle.vt_switch.specs.Acts.{End, SetKd}
use Rattle.vt_switch.specs.Calls.{owns}
use Rattle.vt_world.specs.Deeds.{Deed, Asks, By, Own, Puts, Raises, Scanned, Types}
use Rattle.vt_world.specs.Inputs.{input_at}
use Rattle.vt_world.specs.State.{WorldState}
use Rattle.vt_world.specs.Terminals.{key_modes_of, terminal_at}
use Rattle.vt_world.specs.declared.wanted.Wanted.TheVariants.{Above, Below, Last, Number}

-- a signal is sent: 9 ends its process (signal(7)), and any other is raised
abbrev pub signal_deed : ℕ → ℕ → Deed
signal_deed p signal = if signal == 9 then By (End p) else Own (Raises p signal)

-- the key signal goes to the process that accepts it
abbrev pub spawn_deeds : Option (ℕ × ℕ) → List Deed
spawn_deeds None = []
spawn_deeds (Some accepter) = signal_deed accepter.0 accepter.1 ∷ []

-- p is alive, and handles the switches of console n or has it open
abbrev pub uses : WorldState → ℕ → ℕ → Bool
uses w n p =
    is_live w.callers p && (owns w.display p n || has_open (caller_at w.callers p).opens n)

-- the processes that use console n, in ascending order
abbrev pub users : WorldState → ℕ → List ℕ
users w n = filter (uses w n) (range_with_len 1 64)

-- each of them ends, and then come these deeds
abbrev pub ends_of : List ℕ → List Deed → List Deed
ends_of [] deeds = deeds
ends_of (p ∷ processes) deeds = By (End p) ∷ ends_of processes deeds

-- the attention key: every process that uses the console in front ends, and the console shows text
abbrev pub attention_deeds : WorldState → ℕ → List Deed
attention_deeds w n = ends_of (users w n) (By (SetKd n false) ∷ [])

-- the deeds for the result of a key; n is the console that was in front
abbrev pub key_out_deeds : WorldState → ℕ → KeyOut → List Deed
key_out_deeds w n (key_out.Bytes bytes) = Own (Puts n bytes) ∷ []
key_out_deeds w n (key_out.Switch m) = Asks (Number m) ∷ []
key_out_deeds w n key_out.Last = Asks Last ∷ []
key_out_deeds w n key_out.Next = Asks Above ∷ []
key_out_deeds w n key_out.Prev = Asks Below ∷ []
key_out_deeds w n key_out.Spawn = spawn_deeds w.callers.accepter
key_out_deeds w n key_out.Attention = attention_deeds w n
key_out_deeds w n key_out.Nothing = []

-- a key event of keyboard k, with console n in front
abbrev pub key_on : WorldState → ℕ → ℕ → KeyEvent → Step
key_on w k n e =
    key_step w.board.tables (key_modes_of (terminal_at w.terminals n)) k e w.board.keyboard
    (input_at w.inputs n).keys

-- the key is typed, and then come the deeds for its result
abbrev pub typed_deeds : WorldState → ℕ → Step → List Deed
typed_deeds w n s = Own (Types n s.keys s.state) ∷ key_out_deeds w n s.out

abbrev pub key_deeds : WorldState → ℕ → ℕ → Option KeyEvent → List Deed
key_deeds w k n None = []
key_deeds w k n (Some e) = typed_deeds w n (key_on w k n e)

-- the scanner of keyboard k
abbrev pub scanner_of : List Scan → ℕ → Scan
scanner_of scanners k = slice_index_or scanners k start_scan

-- the scanner has read a byte
abbrev pub read_by : Scan → ℕ → Scan
read_by scanner b = record scanner { bytes = bytes_after scanner.bytes b }

-- the byte is read, and the key that it completes is typed
abbrev pub read_deeds : WorldState → ℕ → ℕ → ℕ → List Deed
read_deeds w k n b =
    let scanner = scanner_of w.board.scanners k in
    Own (Scanned k (read_by scanner b))
    ∷ key_deeds w k n (event_after scanner.codes scanner.bytes b)

-- a scan byte of keyboard k, with console n in front: if the keyboard mode of n is K_RAW, the byte
-- goes into the queue of n first
abbrev pub scan_deeds : WorldState → ℕ → ℕ → ℕ → List Deed
scan_deeds w k n b =
    if (input_at w.inputs n).keys.mode == 0 then Own (Puts n (b ∷ [])) ∷ read_deeds w k n b
    else read_deeds w k n b
