-- A pass after a call.
use Rattle.std.proofs.Common.{◌≡◌, ℕ, false, List, [], ◌∷◌, ◌++◌, length, take, Option, Some, None, refl, sym, ap, ◌∙◌, subst, arith, length-append}
use Rattle.std.proofs.Math.Seq.{get_or-append_seam}
use Rattle.std.proofs.lemmas.Option.{none-some, slice_get-get_or}
use Rattle.std.specs.Prelude.{slice_get}
use Rattle.atomic_table.specs.Seated.{TableId}
use Rattle.vt_base.specs.declared.errno.Errno.{Errno}
use Rattle.vt_events.specs.Waits.{is_wait}
use Rattle.vt_events.specs.declared.entry.Entry.{Entry}
use Rattle.vt_events.specs.declared.event.Event.{Event}
use Rattle.vt_events.specs.declared.event.Event.TheVariants.{WaitEnd}
use Rattle.vt_hub.specs.Answers.{Answers}
use Rattle.vt_hub.proofs.Lists.{plain_waits, waits_more}
use Rattle.vt_hub.specs.Histories.{awaits}
use Rattle.vt_hub.specs.Ready.{IsReady, is_told_to_wait}
use Rattle.vt_hub.specs.Views.{PassView}
use Rattle.vt_hub.specs.declared.answer.Answer.{Answer}
use Rattle.vt_hub.specs.declared.answer.Answer.TheVariants as answer
use Rattle.vt_journal.specs.declared.limits.Limits.{Limits}
use Rattle.vt_procs.specs.declared.waiting.Waiting.{Waiting}
use Rattle.vt_procs.specs.declared.waiting.Waiting.TheVariants as waiting
use Rattle.vt_world.specs.Heard.{without_marks}
use Rattle.vt_world.specs.History.{IsLegal, IsNext, replay}
use Rattle.vt_world.specs.Events.{own_refusals, row}
use Rattle.vt_world.specs.Refusals.{caller, common_refusals, first_refusal}
use Rattle.vt_world.specs.Rows.{ended_reply}
use Rattle.vt_world.specs.State.{WorldState}
use Rattle.vt_world.specs.Step.{outcome_of_row, row_result_after, row_result, step}

-- the answer is how a wait ended, and is no wait itself
ended_waits : (w : Waiting) → is_wait (ended_reply w) ≡ false
ended_waits waiting.Nothing = refl
ended_waits (waiting.Open ticket) = refl
ended_waits waiting.Done = refl
ended_waits waiting.Broken = refl

own_waits : (w : WorldState) (p : ℕ) (refused : Option Errno)
    → is_wait (outcome_of_row (row_result w refused (row w p WaitEnd))).reply ≡ false
own_waits w p (Some errno) = refl
own_waits w p None = ended_waits (caller w p).waiting

after_waits : (w : WorldState) (p : ℕ) (refused : Option Errno)
    → is_wait (outcome_of_row (row_result_after w p WaitEnd refused)).reply ≡ false
after_waits w p (Some errno) = refl
after_waits w p None = own_waits w p (first_refusal (own_refusals w p WaitEnd))

step_waits : (w : WorldState) (p : ℕ) → is_wait (step w p WaitEnd).reply ≡ false
step_waits w p = after_waits (without_marks w) p (first_refusal (common_refusals (without_marks w) p WaitEnd))

at_end : (before : List Entry) (entry : Entry) → slice_get (before ++ entry ∷ []) (length before) ≡ Some entry
at_end before entry =
    slice_get-get_or (before ++ entry ∷ []) (length before) entry
    (omega (arith, length-append before (entry ∷ [])))
    ∙ ap Some (get_or-append_seam before entry [] entry)

last_ends : (start : WorldState) (before : List Entry) (entry : Entry)
    → IsLegal start (before ++ entry ∷ []) → entry.event ≡ WaitEnd → is_wait entry.reply ≡ false
last_ends start before entry legal is =
    let history : List Entry = before ++ entry ∷ [] in
    let earlier : List Entry = take (length before) history in
    let next : IsNext start earlier entry = legal (length before) entry (at_end before entry) in
    sym (plain_waits entry.reply)
    ∙ ap is_wait next.answer
    ∙ ap (λ e. is_wait (step (replay start earlier) entry.caller e).reply) is
    ∙ step_waits (replay start earlier) entry.caller

-- the pass of this hub that was answered so
pub ready_after : (start : WorldState) (most : Limits) (e : Event) (here : TableId) (v w : PassView) (a : Answer)
    → v.hub ≡ here → Answers start most e v w a → IsReady here (is_told_to_wait a) w
ready_after start most e here v w (answer.Done place r) own called = record {
  own = called.hub ∙ own;
  free = λ goes met.
      ap awaits called.mine ∙ waits_more false v.mine called.entry
      ∙ sym (plain_waits called.entry.reply) ∙ ap is_wait called.reply ∙ plain_waits r ∙ goes;
}
ready_after start most e here v w (answer.Full full) own stopped = record {
  own = stopped.hub ∙ own;
  free = λ goes met. absurd (none-some _ (sym met ∙ stopped.met));
}

-- how a wait ended is no wait
pub end_tells : (start : WorldState) (most : Limits) (v w : PassView) (a : Answer)
    → Answers start most WaitEnd v w a → is_told_to_wait a ≡ false
end_tells start most v w (answer.Done place r) called =
    sym (plain_waits r) ∙ sym (ap is_wait called.reply) ∙ plain_waits called.entry.reply
    ∙ last_ends start (v.seen ++ called.between) called.entry
    (subst (IsLegal start) called.seen called.legal) called.event
end_tells start most v w (answer.Full full) stopped = refl
