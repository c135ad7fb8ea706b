-- Deeds: the possible effects of an event on the machine.
use Rattle.std.specs.Prelude.{ℕ, List, [], ◌∷◌, map, slice_set, Option, Some, None, if◌then◌else◌}
use Rattle.key_machine.specs.Keys.{Keys, State, after_unplug}
use Rattle.key_tables.specs.Tables.{Tables}
use Rattle.scan_codes.specs.Scan.{Scan, with_code}
use Rattle.vt_base.specs.Keyboards.{keyboard_of}
use Rattle.vt_procs.specs.Callers.{after_open, after_close}
use Rattle.vt_procs.specs.Tickets.{with_accepter, after_wait_report, after_input_on, after_taking_signals, waits}
use Rattle.vt_procs.specs.declared.ticket.Ticket.{Ticket}
use Rattle.vt_canvas.specs.Change.{Change}
use Rattle.vt_switch.specs.Acts.{SwitchAct, Request}
use Rattle.vt_switch.specs.Moments.{core_after, marks, raise}
use Rattle.vt_world.specs.Heard.{apply_marks}
use Rattle.vt_world.specs.Inputs.{comes, with_new_input, input_at, with_key_state, lit, with_queued, without_bytes}
use Rattle.vt_world.specs.State.{WorldState, core}
use Rattle.vt_world.specs.Terminals.{after_screen_change, with_start, without_terminal, after_write}
use Rattle.vt_world.specs.Wanted.{wanted_in}
use Rattle.vt_world.specs.declared.wanted.Wanted.{Wanted}

-- deeds that change neither the display nor which callers are alive. Of terminals: console n gets
-- one, loses it, is written to, or a call changes its screen
pub data OwnDeed : Type 0 where
  Starts : ℕ → OwnDeed
  Clears : ℕ → OwnDeed
  Writes : ℕ → List ℕ → OwnDeed
  Alters : ℕ → Change → OwnDeed
  -- of queues: console n's gets a piece, or loses its first bytes, this many
  Puts : ℕ → List ℕ → OwnDeed
  Takes : ℕ → ℕ → OwnDeed
  -- of keyboards: console n gets these lights or this key state, keyboard k this scanner, a scan
  -- number this keycode on all keyboards, the machine these key tables; a key leaves these keys
  -- down and console n with this key state; and if p is a keyboard, its keys are released
  Lights : ℕ → ℕ → OwnDeed
  Keyed : ℕ → State → OwnDeed
  Scanned : ℕ → Scan → OwnDeed
  Coded : ℕ → ℕ → OwnDeed
  Mapped : Tables → OwnDeed
  Types : ℕ → Keys → State → OwnDeed
  Unplugs : ℕ → OwnDeed
  -- of callers: p opens console c, closes a descriptor, begins a wait, collects its ended wait,
  -- takes its signals, accepts the key signal, or gets a signal
  Opens : ℕ → ℕ → OwnDeed
  Shuts : ℕ → ℕ → OwnDeed
  Waits : ℕ → Ticket → OwnDeed
  Collects : ℕ → OwnDeed
  Receives : ℕ → OwnDeed
  Accepts : ℕ → ℕ → OwnDeed
  Raises : ℕ → ℕ → OwnDeed

-- a deed: an act of the switch, a request for a wanted console, or one of the deeds above
pub data Deed : Type 0 where
  By : SwitchAct → Deed
  Asks : Wanted → Deed
  Own : OwnDeed → Deed

-- bytes that enter console n's queue end the waits for its input; none enter if the queue has no
-- room
abbrev pub with_input : ℕ → List ℕ → WorldState → WorldState
with_input n piece w = record w {
  inputs = with_queued n piece w.inputs;
  callers =
      if comes (input_at w.inputs n).queue piece then after_input_on n w.callers else w.callers;
}

-- the keys that are down after the end of a caller
abbrev pub keys_without : Option ℕ → Keys → Keys
keys_without None keys = keys
keys_without (Some k) keys = after_unplug k keys

abbrev pub apply_own_deed : WorldState → OwnDeed → WorldState
apply_own_deed w (Starts n) = record w { terminals = with_start n w.rows w.cols w.terminals }
apply_own_deed w (Clears n) = record w {
  terminals = without_terminal n w.terminals;
  inputs = with_new_input n w.inputs;
}
apply_own_deed w (Writes n bytes) = record w { terminals = after_write n bytes w.terminals }
apply_own_deed w (Alters n m) = record w { terminals = after_screen_change n m w.terminals }
apply_own_deed w (Puts n piece) = with_input n piece w
apply_own_deed w (Takes n count) = record w { inputs = without_bytes n count w.inputs }
apply_own_deed w (Lights n lights) = record w { inputs = lit n lights w.inputs }
apply_own_deed w (Keyed n state) = record w { inputs = with_key_state n state w.inputs }
apply_own_deed w (Scanned k scanner) =
    record w { board = record w.board { scanners = slice_set w.board.scanners k scanner } }
apply_own_deed w (Coded scan code) = record w {
  board = record w.board { scanners = map (λ s. with_code s scan code) w.board.scanners };
}
apply_own_deed w (Mapped tables) = record w { board = record w.board { tables = tables } }
apply_own_deed w (Types n keys state) = record w {
  inputs = with_key_state n state w.inputs;
  board = record w.board { keyboard = keys };
}
apply_own_deed w (Unplugs p) = record w {
  board = record w.board { keyboard = keys_without (keyboard_of p) w.board.keyboard };
}
apply_own_deed w (Opens p c) = record w { callers = after_open p c w.callers }
apply_own_deed w (Shuts p fd) = record w { callers = after_close p fd w.callers }
apply_own_deed w (Waits p ticket) = record w { callers = waits p ticket w.callers }
apply_own_deed w (Collects p) = record w { callers = after_wait_report p w.callers }
apply_own_deed w (Receives p) = record w { callers = after_taking_signals p w.callers }
apply_own_deed w (Accepts p signal) = record w { callers = with_accepter p signal w.callers }
apply_own_deed w (Raises p signal) = apply_marks w (raise (core w) p signal)

-- an act of the switch is carried out, and the trace gets its marks
abbrev pub after_switch_act : WorldState → SwitchAct → WorldState
after_switch_act w act =
    apply_marks (record w { display = (core_after (core w) act).display }) (marks (core w) act)

abbrev pub after_request : WorldState → Option ℕ → WorldState
after_request w None = w
after_request w (Some n) = after_switch_act w (Request n)

abbrev pub apply_deed : WorldState → Deed → WorldState
apply_deed w (By act) = after_switch_act w act
apply_deed w (Asks wanted) = after_request w (wanted_in w.display wanted)
apply_deed w (Own deed) = apply_own_deed w deed

abbrev pub apply_deeds : WorldState → List Deed → WorldState
apply_deeds w [] = w
apply_deeds w (deed ∷ deeds) = apply_deeds (apply_deed w deed) deeds
