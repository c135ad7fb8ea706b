-- The printed run of a session.
use Rattle.std.proofs.Common.{◌≡◌, ℕ, List, Option, ap, ◌∙◌, subst}
use Rattle.session_order.specs.Sessions.{IsRightHistory, start_of}
use Rattle.session_run.specs.Final.{final_text}
use Rattle.session_text.specs.Sessions.{SessionView}
use Rattle.vt_events.specs.declared.entry.Entry.{Entry}
use Rattle.vt_journal.specs.Room.{tail_at}
use Rattle.vt_journal.specs.declared.full.Full.{Full}
use Rattle.vt_journal.specs.declared.tail.Tail.{Tail}
use Rattle.vt_tool.specs.Commands.Session.{IsPrinted, IsRightRun, run_outcome}
use Rattle.vt_tool.specs.Outcome.{Outcome}
use Rattle.vt_world.specs.History.{replay}
use Rattle.vt_world.specs.State.{WorldState}

-- a right history is right with the machine of its replay
pub right_run : (s : SessionView) (world : WorldState) (history : List Entry) (end : Tail)
    → IsRightHistory s world history end → IsRightRun s history end
right_run s world history end right = subst (λ w. IsRightHistory s w history end) right.world right

pub run_printed : (s : SessionView) (world : WorldState) (history : List Entry) (stop : Option Full)
    → world ≡ replay (start_of s) history → (last : List ℕ) → last ≡ final_text world
    → (outcome : Outcome) → outcome ≡ run_outcome history (tail_at history stop) last
    → IsPrinted s history (tail_at history stop) outcome
run_printed s world history stop replayed last is_final outcome is =
    is ∙ ap (run_outcome history (tail_at history stop)) (is_final ∙ ap final_text replayed)
