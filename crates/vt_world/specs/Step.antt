-- The step of the machine: the machine after one event of one caller, and the event's answer.
use Rattle.std.specs.Prelude.{◌≡◌, ℕ, List, [], Option, Some, None, Result, Ok, Err}
use Rattle.vt_base.specs.declared.errno.Errno.{Errno}
use Rattle.vt_events.specs.Charge.{text_of_reply}
use Rattle.vt_events.specs.Plain.{plain_reply}
use Rattle.vt_events.specs.declared.event.Event.{Event}
use Rattle.vt_events.specs.declared.reply.Reply.{Reply}
use Rattle.vt_events.specs.declared.reply.Reply.TheVariants as reply
use Rattle.vt_procs.specs.Tickets.{after_idle_rule}
use Rattle.vt_world.specs.Deeds.{apply_deeds}
use Rattle.vt_world.specs.Heard.{without_marks}
use Rattle.vt_world.specs.Events.{own_refusals, row}
use Rattle.vt_world.specs.Rows.{EventRow}
use Rattle.vt_world.specs.State.{WorldState}
use Rattle.vt_world.specs.Refusals.{common_refusals, first_refusal}

-- the result of a rule: the machine, and the answer or the refusal
pub record RowResult : Type 0 where
  pub world : WorldState
  pub answer : Result Reply Errno

-- a refused event changes nothing; the deeds of any other event are carried out
abbrev pub row_result : WorldState → Option Errno → EventRow → RowResult
row_result w (Some errno) r = record { world = w; answer = Err errno }
row_result w None r = record { world = apply_deeds w r.deeds; answer = Ok r.reply }

-- the result of an event that passes the tests of every event
abbrev pub own_row_result : WorldState → ℕ → Event → RowResult
own_row_result w p e = row_result w (first_refusal (own_refusals w p e)) (row w p e)

-- the tests of every event come before the event's own
abbrev pub row_result_after : WorldState → ℕ → Event → Option Errno → RowResult
row_result_after w p e (Some errno) = record { world = w; answer = Err errno }
row_result_after w p e None = own_row_result w p e

-- the machine after an event, and the answer
pub record Outcome : Type 0 where
  pub world : WorldState
  pub reply : Reply

-- the idle rule comes last
abbrev pub with_idle_rule : WorldState → WorldState
with_idle_rule w = record w { callers = after_idle_rule w.callers }

-- the answer to a refused event is its error; after every other event comes the idle rule
abbrev pub outcome_of_result : WorldState → Result Reply Errno → Outcome
outcome_of_result w (Err errno) = record { world = w; reply = reply.Err errno }
outcome_of_result w (Ok r) = record { world = with_idle_rule w; reply = r }

abbrev pub outcome_of_row : RowResult → Outcome
outcome_of_row effect = outcome_of_result effect.world effect.answer

-- the trace is emptied, and then the event has its effect and its answer
abbrev pub step : WorldState → ℕ → Event → Outcome
step w p e =
    outcome_of_row (row_result_after (without_marks w) p e (first_refusal (common_refusals (without_marks w) p e)))

-- the machine and the answer are those of the outcome
abbrev pub HasOutcome : Outcome → WorldState → Reply → Type 0
HasOutcome outcome w r = outcome ≡ record { world = w; reply = plain_reply r }

-- an answer whose bytes have no spare room
abbrev pub plain_answer : Result Reply Errno → Result Reply Errno
plain_answer (Ok r) = Ok (plain_reply r)
plain_answer (Err errno) = Err errno

-- the bytes that an answer holds: a refusal holds none
abbrev pub text_of_answer : Result Reply Errno → List ℕ
text_of_answer (Ok r) = text_of_reply r
text_of_answer (Err errno) = []

abbrev pub HasRowResult : RowResult → WorldState → Result Reply Errno → Type 0
HasRowResult effect w answer = effect ≡ record { world = w; answer = plain_answer answer }
