-- A step, by its cases: the event is refused, or it isn't.
use Rattle.std.proofs.Common.{◌≡◌, ℕ, List, [], Option, Some, None, refl}
use Rattle.vt_base.specs.declared.errno.Errno.{Errno}
use Rattle.vt_events.specs.declared.event.Event.{Event}
use Rattle.vt_events.specs.declared.reply.Reply.TheVariants as reply
use Rattle.vt_world.specs.Acts.{deeds_after, deeds_unless, event_deeds}
use Rattle.vt_world.specs.Deeds.{Deed, apply_deeds}
use Rattle.vt_world.specs.Heard.{without_marks}
use Rattle.vt_world.specs.Events.{own_refusals, row}
use Rattle.vt_world.specs.Rows.{EventRow}
use Rattle.vt_world.specs.State.{WorldState}
use Rattle.vt_world.specs.Step.{Outcome, outcome_of_row, row_result_after, row_result, step, with_idle_rule}
use Rattle.vt_world.specs.Refusals.{common_refusals, first_refusal}

abbrev refusal : WorldState → Errno → Outcome
refusal w errno = record { world = w; reply = reply.Err errno }

-- the machine and the answer of a row
abbrev pub outcome : WorldState → EventRow → Outcome
outcome w r = record { world = with_idle_rule (apply_deeds w r.deeds); reply = r.reply }

by_answer : (P : List Deed → Outcome → Type 0) (w : WorldState) (r : EventRow)
    (refused : Option Errno) → ((errno : Errno) → P [] (refusal w errno))
    → (refused ≡ None → P r.deeds (outcome w r))
    → P (deeds_unless refused r.deeds) (outcome_of_row (row_result w refused r))
by_answer P w r (Some errno) nothing all = nothing errno
by_answer P w r None nothing all = all refl

by_common : (P : List Deed → Outcome → Type 0) (w : WorldState) (p : ℕ) (e : Event)
    (refused : Option Errno) → ((errno : Errno) → P [] (refusal w errno))
    → (first_refusal (own_refusals w p e) ≡ None → P (row w p e).deeds (outcome w (row w p e)))
    → P (deeds_after w p e refused) (outcome_of_row (row_result_after w p e refused))
by_common P w p e (Some errno) nothing all = nothing errno
by_common P w p e None nothing all =
    by_answer P w (row w p e) (first_refusal (own_refusals w p e)) nothing all

-- a fact that holds if an event is refused, and if the deeds of its row are carried out, holds of a
-- step
pub by_step : (P : List Deed → Outcome → Type 0) (w : WorldState) (p : ℕ) (e : Event)
    → ((errno : Errno) → P [] (refusal (without_marks w) errno))
    → (first_refusal (own_refusals (without_marks w) p e) ≡ None
    → P (row (without_marks w) p e).deeds (outcome (without_marks w) (row (without_marks w) p e)))
    → P (event_deeds (without_marks w) p e) (step w p e)
by_step P w p e nothing all =
    by_common P (without_marks w) p e (first_refusal (common_refusals (without_marks w) p e)) nothing all
