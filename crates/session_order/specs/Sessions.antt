-- The beginning of a session, and the facts about every right history of it. This project's own.
use Rattle.std.specs.Prelude.{◌≡◌, ℕ, ◌<◌, true, List, is_some, length, option_map}
use Rattle.session_order.specs.Ends.{Ends, Setup}
use Rattle.session_order.specs.Follows.{Follows}
use Rattle.session_text.specs.Programs.{program_of}
use Rattle.session_text.specs.Sessions.{SessionView}
use Rattle.session_text.specs.declared.program.Program.{Program}
use Rattle.vt_base.specs.Limits.{callers}
use Rattle.vt_events.specs.declared.entry.Entry.{Entry}
use Rattle.vt_journal.specs.declared.tail.Tail.{Tail}
use Rattle.vt_switch.specs.Law.{IsExplained, IsLawful}
use Rattle.vt_world.specs.History.{IsLegal, replay}
use Rattle.vt_world.specs.Laws.{moments}
use Rattle.vt_world.specs.Start.{start_world}
use Rattle.vt_world.specs.State.{WorldState, core}
use Rattle.vt_world.specs.Tapes.{screen_of, tape_of}
use Rattle.vt_world.specs.Terminals.{emu_of, terminal_at}

-- the machine that a session begins with
abbrev pub start_of : SessionView → WorldState
start_of s =
    start_world s.config.size.rows s.config.size.cols s.config.consoles s.config.front s.config.keyboards
    s.config.procs s.tables

-- the beginning of a session: its machine, programs and limits
abbrev pub setup_of : SessionView → Setup
setup_of s = record { start = start_of s; programs = s.programs; limits = s.limits }

-- in this machine, after this history, each screen with the rest of its text is the run of its console's tape
-- from the start screen
abbrev pub ShowsTapes : SessionView → WorldState → List Entry → Type 0
ShowsTapes s world history =
    (c : ℕ) → c < 64
    → emu_of (terminal_at world.terminals c)
    ≡ option_map (screen_of s.config.size.rows s.config.size.cols) (tape_of c (start_of s) history)

-- only callers have programs
abbrev pub AreOfCallers : List Program → Type 0
AreOfCallers programs = (p : ℕ) → is_some (program_of programs p) ≡ true → p < callers

-- a history of the session, the machine after it, and its end: the history is legal, follows the programs and
-- ends so; each switch of the display was allowed, and the pending console was requested; and each screen is
-- the run of its console's tape
pub record IsRightHistory (s : SessionView) (console : WorldState) (history : List Entry) (end : Tail) : Type 0 where
  pub world : console ≡ replay (start_of s) history
  pub legal : IsLegal (start_of s) history
  pub follows : Follows (start_of s) s.programs history
  pub ends : Ends (setup_of s) history end
  pub lawful : IsLawful (moments (start_of s) history)
  pub explained : IsExplained (length history) (core console) (moments (start_of s) history)
  pub screens : ShowsTapes s console history

-- a history that is legal, follows the programs and ends so is right
abbrev pub LegalAreRight : SessionView → Type 0
LegalAreRight s =
    (history : List Entry) (end : Tail) → IsLegal (start_of s) history
    → Follows (start_of s) s.programs history → Ends (setup_of s) history end
    → IsRightHistory s (replay (start_of s) history) history end
