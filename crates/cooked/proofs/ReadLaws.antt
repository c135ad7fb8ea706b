-- The machine's answers to reads and to writes.
use Rattle.std.proofs.Common.{◌≡◌, ℕ, ◌≤◌, min, Bool, true, false, cond, ◌&&◌, List, [], ◌∷◌, ◌++◌, length, take, Some, None, refl, sym, ap, ◌∙◌, subst, arith, length-append}
use Rattle.std.proofs.Math.Seq.{get_or-append_seam}
use Rattle.std.proofs.lemmas.Bool.{and_parts, eqb-false, leb-true, not-false}
use Rattle.std.proofs.lemmas.List.{length-take}
use Rattle.std.proofs.lemmas.Option.{slice_get-get_or}
use Rattle.std.specs.Prelude.{Option, nat_le, slice_get}
use Rattle.vt_base.specs.Bytes.{Text}
use Rattle.vt_base.specs.declared.errno.Errno.{Errno}
use Rattle.vt_base.specs.declared.errno.Errno.TheVariants.{Again}
use Rattle.vt_events.specs.Kinds.{text}
use Rattle.vt_events.specs.Plain.{plain_reply}
use Rattle.vt_events.specs.Waits.{is_wait}
use Rattle.vt_events.specs.declared.entry.Entry.{Entry}
use Rattle.vt_events.specs.declared.event.Event.{Event}
use Rattle.vt_events.specs.declared.event.Event.TheVariants as event
use Rattle.vt_events.specs.declared.reply.Reply.{Reply}
use Rattle.vt_events.specs.declared.reply.Reply.TheVariants as reply
use Rattle.vt_world.specs.Heard.{without_marks}
use Rattle.vt_world.specs.History.{IsLegal, replay}
use Rattle.vt_world.specs.Inputs.{input_at}
use Rattle.vt_world.specs.Events.{own_refusals, row}
use Rattle.vt_world.specs.Refusals.{Refusal, common_refusals, first_refusal, is_empty, needs_open, needs_sense, refusal, target, transfer_limit}
use Rattle.vt_world.specs.State.{WorldState}
use Rattle.vt_world.specs.Step.{outcome_of_row, row_result_after, row_result, step}
use Rattle.cooked.specs.Turn.{ReadAnswer, WriteAnswer}

-- if none refuses, the first of some refusals doesn't
none_first : (r : Refusal) (more : List Refusal) → first_refusal (r ∷ more) ≡ None
    → (r.applies ≡ false) × (first_refusal more ≡ None)
none_first r more none = by_test r.applies refl
  where
    by_test : (test : Bool) → r.applies ≡ test → (r.applies ≡ false) × (first_refusal more ≡ None)
    by_test true is = absurd (let wrong : ⊥ = cc (sym (ap (λ t. cond t (Some r.with) (first_refusal more)) is) ∙ none) in wrong)
    by_test false is = (is, sym (ap (λ t. cond t (Some r.with) (first_refusal more)) is) ∙ none)

-- bytes from the front of a queue that isn't empty
front_answer : (most : ℕ) (queue : List ℕ) → 1 ≤ most → 1 ≤ length queue
    → ReadAnswer most (reply.Text (text (take (min most (length queue)) queue)))
front_answer most queue some bytes =
    let long = length-take (min most (length queue)) queue in
    (omega (arith, long), omega (arith, long))

pub read_answer : (w : WorldState) (p fd most : ℕ) → ReadAnswer most (step w p (event.ReadIn fd most)).reply
read_answer w p fd most = by_common (first_refusal (common_refusals (without_marks w) p (event.ReadIn fd most)))
  where
    by_own : (o : Option Errno) → first_refusal (own_refusals (without_marks w) p (event.ReadIn fd most)) ≡ o
        → ReadAnswer most (outcome_of_row (row_result (without_marks w) o (row (without_marks w) p (event.ReadIn fd most)))).reply
    by_own (Some errno) is = tt
    by_own None is =
        let here : WorldState = without_marks w in
        let makes_sense : Bool = nat_le 1 most && nat_le most transfer_limit in
        let empty : Refusal = refusal (is_empty here (target here p fd)) Again in
        let open_fd = none_first (needs_open here p fd) (needs_sense makes_sense ∷ empty ∷ []) is in
        let sense = none_first (needs_sense makes_sense) (empty ∷ []) open_fd.1 in
        let some = none_first empty [] sense.1 in
        let queue : List ℕ = (input_at (without_marks w).inputs (target (without_marks w) p fd)).queue.bytes in
        let least : 1 ≤ most = leb-true 1 most (and_parts (nat_le 1 most) (nat_le most transfer_limit) (not-false makes_sense sense.0)).0 in
        let filled : length queue ≡ 0 → ⊥ = eqb-false (length queue) 0 some.0 in
        front_answer most queue least (omega (arith, filled))

    by_common : (o : Option Errno)
        → ReadAnswer most (outcome_of_row (row_result_after (without_marks w) p (event.ReadIn fd most) o)).reply
    by_common (Some errno) = tt
    by_common None = by_own (first_refusal (own_refusals (without_marks w) p (event.ReadIn fd most))) refl

pub write_answer : (w : WorldState) (p fd : ℕ) (b : Text) → WriteAnswer (step w p (event.Write fd b)).reply
write_answer w p fd b = by_common (first_refusal (common_refusals (without_marks w) p (event.Write fd b)))
  where
    by_own : (o : Option Errno)
        → WriteAnswer (outcome_of_row (row_result (without_marks w) o (row (without_marks w) p (event.Write fd b)))).reply
    by_own (Some errno) = tt
    by_own None = tt

    by_common : (o : Option Errno)
        → WriteAnswer (outcome_of_row (row_result_after (without_marks w) p (event.Write fd b) o)).reply
    by_common (Some errno) = tt
    by_common None = by_own (first_refusal (own_refusals (without_marks w) p (event.Write fd b)))

-- the last entry of a legal history has the machine's answer
last_answer : (P : Reply → Type 0) (start : WorldState) (before : List Entry) (entry : Entry) (e : Event)
    → IsLegal start (before ++ entry ∷ []) → entry.event ≡ e
    → ((w : WorldState) (p : ℕ) → P (step w p e).reply) → P (plain_reply entry.reply)
last_answer P start before entry e legal is answers =
    let history : List Entry = before ++ entry ∷ [] in
    let next = legal (length before) entry (here before entry) in
    subst P (sym next.answer)
    (subst (λ x. P (step (replay start (take (length before) history)) entry.caller x).reply) (sym is)
    (answers (replay start (take (length before) history)) entry.caller))
  where
    here : (before : List Entry) (entry : Entry) → slice_get (before ++ entry ∷ []) (length before) ≡ Some entry
    here before entry =
        slice_get-get_or (before ++ entry ∷ []) (length before) entry
        (omega (arith, length-append before (entry ∷ [])))
        ∙ ap Some (get_or-append_seam before entry [] entry)

plain_read : (most : ℕ) (r : Reply) → ReadAnswer most (plain_reply r) → ReadAnswer most r
plain_read most (reply.Text b) is = is
plain_read most (reply.Err errno) is = is
plain_read most r is = is

plain_write : (r : Reply) → WriteAnswer (plain_reply r) → is_wait r ≡ false
plain_write reply.Wait is = absurd is
plain_write r is = refl

pub legal_read : (start : WorldState) (before : List Entry) (entry : Entry) (fd most : ℕ) (r : Reply)
    → IsLegal start (before ++ entry ∷ []) → entry.event ≡ event.ReadIn fd most
    → plain_reply entry.reply ≡ plain_reply r → ReadAnswer most r
legal_read start before entry fd most r legal is same =
    plain_read most r
    (subst (ReadAnswer most) same
    (last_answer (ReadAnswer most) start before entry (event.ReadIn fd most) legal is
    (λ w p. read_answer w p fd most)))

pub legal_write : (start : WorldState) (before : List Entry) (entry : Entry) (fd : ℕ) (b : Text)
    → IsLegal start (before ++ entry ∷ []) → entry.event ≡ event.Write fd b → is_wait entry.reply ≡ false
legal_write start before entry fd b legal is =
    plain_write entry.reply
    (last_answer WriteAnswer start before entry (event.Write fd b) legal is (λ w p. write_answer w p fd b))
