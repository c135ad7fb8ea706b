-- The hooks that play a session, and the run. This project's own.
use Rattle.std.specs.Prelude.{◌≡◌, List, Option, Some, None, filter_map}
use Rattle.session_order.specs.Meant.{plain_history}
use Rattle.session_order.specs.Serial.{Played}
use Rattle.session_order.specs.Sessions.{IsRightHistory}
use Rattle.session_text.specs.Sessions.{SessionView}
use Rattle.session_text.specs.declared.program.Program.{Program}
use Rattle.session_text.specs.declared.program.Program.TheVariants as program
use Rattle.sig_hooks.specs.declared.act.Act.{Act}
use Rattle.vt_hub.specs.declared.run.Run.{Run}
use Rattle.vt_journal.specs.Room.{tail_at}

-- the table of a process; a keyboard has none
abbrev pub table_of : Program → Option (List Act)
table_of (program.Keys bytes) = None
table_of (program.Script items table) = Some table

-- there is a hook for each process, in their order, with the table of its program
pub record HasHooks (programs : List Program) (tables : List (List Act)) : Type 0 where
  pub acts : tables ≡ filter_map table_of programs

-- a function that makes a handler of a table: it takes every table, and the handler answers by that
abbrev pub MakesHandlers : {H : Type 0} → (List Act → Type 0) → (List Act → H → Type 0)
    → (H → List Act → Type 0) → Type 0
MakesHandlers may_call gives answers =
    (table : List Act) → may_call table × ((h : _) → gives table h → answers h table)

-- the history of a run without rooms of bytes, and where it stopped
abbrev pub run_result : Run → Played
run_result run = record { history = plain_history run.log.entries; stop = run.stop }

-- the run has a right history of the session, and its machine is the one after it
abbrev pub IsRightRun : SessionView → Run → Type 0
IsRightRun s run = IsRightHistory s run.world run.log.entries (tail_at run.log.entries run.stop)
