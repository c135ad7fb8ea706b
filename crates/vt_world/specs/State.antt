-- The machine as a whole.
use Rattle.std.specs.Prelude.{◌≡◌, ℕ, Bool, List, Option, is_some, map}
use Rattle.key_tables.specs.Tables.{Tables}
use Rattle.vt_procs.specs.Callers.{Callers, caller_at}
use Rattle.vt_procs.specs.Tickets.{is_open}
use Rattle.vt_switch.specs.Display.{Display}
use Rattle.vt_switch.specs.Law.{OwnersLive}
use Rattle.vt_switch.specs.Moments.{Core}
use Rattle.vt_switch.specs.declared.mark.Mark.{Mark}
use Rattle.vt_world.specs.Terminals.{TerminalState}
use Rattle.vt_world.specs.declared.keyboard_set.KeyboardSet.{KeyboardSet}
use Rattle.vt_world.specs.declared.input.Input.{Input}

-- the marks of the last event, that is its effects on the display and on the callers, in order; and
-- the number of switches of the display since the start
pub record Trace : Type 0 where
  pub marks : List Mark
  pub hops : ℕ

-- the rows and columns of every new screen, the display with its consoles, the callers, the
-- terminal of each console, the input of each console, the keyboards with their tables, and the
-- trace
pub record WorldState : Type 0 where
  pub rows : ℕ
  pub cols : ℕ
  pub display : Display
  pub callers : Callers
  pub terminals : List (Option TerminalState)
  pub inputs : List Input
  pub board : KeyboardSet
  pub trace : Trace

-- the machine with other key tables
abbrev pub with_tables : Tables → WorldState → WorldState
with_tables tables w = record w { board = record w.board { tables = tables } }

-- the display, and which callers are alive
abbrev pub core_of : Display → Callers → Core
core_of d callers = record { display = d; live = map (λ caller. caller.live) callers.list }

abbrev pub core : WorldState → Core
core w = core_of w.display w.callers

-- p waits
abbrev pub is_waiting : WorldState → ℕ → Bool
is_waiting w p = is_open (caller_at w.callers p).waiting

-- the consoles that have a terminal are those that are allocated
abbrev pub AreAllocated : List (Option TerminalState) → Display → Type 0
AreAllocated terminals d = map is_some terminals ≡ map is_some d.consoles

abbrev pub HasTerminals : WorldState → Type 0
HasTerminals w = AreAllocated w.terminals w.display

-- the invariant of a machine: the consoles that have a terminal are those that are allocated, and
-- each process that handles the switches of a console is alive
pub record IsWorld (terminals : List (Option TerminalState)) (d : Display) (callers : Callers) : Type 0 where
  pub alike : AreAllocated terminals d
  pub owners : OwnersLive (core_of d callers)
