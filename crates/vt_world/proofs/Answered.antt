-- The answer to a call holds no bytes if its row has none: for arms of `carry_out` that the search
-- leaves open.
use Rattle.std.proofs.Common.{ap, ◌∙◌, sym}
use Rattle.std.specs.Prelude.{◌≡◌, refl, ℕ, [], Option, Some, None, Result, Ok, Err}
use Rattle.vt_base.specs.declared.errno.Errno.{Errno}
use Rattle.vt_events.specs.Charge.{text_of_reply}
use Rattle.vt_events.specs.Plain.{plain_reply}
use Rattle.vt_events.specs.declared.event.Event.{Event}
use Rattle.vt_events.specs.declared.reply.Reply.{Reply}
use Rattle.vt_events.specs.declared.reply.Reply.TheVariants as reply
use Rattle.vt_world.specs.Events.{own_refusals, row}
use Rattle.vt_world.specs.Refusals.{first_refusal}
use Rattle.vt_world.specs.Rows.{EventRow}
use Rattle.vt_world.specs.State.{WorldState}
use Rattle.vt_world.specs.Step.{HasRowResult, RowResult, own_row_result, plain_answer, row_result, text_of_answer}

plain_reply_bytes : (r : Reply) → text_of_reply (plain_reply r) ≡ text_of_reply r
plain_reply_bytes (reply.Text b) = refl
plain_reply_bytes r = refl

plain_answer_bytes : (answer : Result Reply Errno) → text_of_answer (plain_answer answer) ≡ text_of_answer answer
plain_answer_bytes (Ok r) = plain_reply_bytes r
plain_answer_bytes (Err errno) = refl

no_bytes_in_row :
    (w : WorldState) (refused : Option Errno) (r : EventRow) → text_of_reply r.reply ≡ []
    → text_of_answer (row_result w refused r).answer ≡ []
no_bytes_in_row w None r none = none
no_bytes_in_row w (Some errno) r none = refl

pub no_bytes :
    (w : WorldState) (p : ℕ) (e : Event) (after : WorldState) (answer : Result Reply Errno)
    → text_of_reply (row w p e).reply ≡ [] → HasRowResult (own_row_result w p e) after answer
    → text_of_answer answer ≡ []
no_bytes w p e after answer none has =
    sym (plain_answer_bytes answer)
    ∙ sym (ap (λ (effect : RowResult). text_of_answer effect.answer) has)
    ∙ no_bytes_in_row w (first_refusal (own_refusals w p e)) (row w p e) none
