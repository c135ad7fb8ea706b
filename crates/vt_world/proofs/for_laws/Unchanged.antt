-- A refused call has no effect.
use Rattle.std.proofs.Common.{◌≡◌, ℕ, zero, suc, Bool, true, false, cond, List, [], ◌∷◌, get_or, set, Some, None, refl, sym, ap, ◌∙◌}
use Rattle.std.specs.List.{list_any}
use Rattle.std.specs.Prelude.{◌==◌, ◌&&◌, ◌||◌, not}
use Rattle.std.proofs.lemmas.Bool.{and_from, false≢true, or_right}
use Rattle.vt_base.specs.Keyboards.{is_keyboard}
use Rattle.vt_base.specs.declared.errno.Errno.TheVariants.{Again, Intr, Inval, Notty, Srch}
use Rattle.vt_events.specs.declared.entry.Entry.{Entry}
use Rattle.vt_events.specs.declared.event.Event.{Event}
use Rattle.vt_events.specs.declared.event.Event.TheVariants as event
use Rattle.vt_events.specs.declared.reply.Reply.{Reply}
use Rattle.vt_events.specs.declared.reply.Reply.TheVariants as reply
use Rattle.vt_procs.specs.Callers.{Callers, caller_at, is_live, no_caller}
use Rattle.vt_procs.specs.Tickets.{can_go, after_wait_report, is_open, waiting_after_report, after_idle_rule, waited_of, with_waiting}
use Rattle.vt_procs.specs.declared.process.Process.{Process}
use Rattle.vt_procs.specs.declared.ticket.Ticket.{Ticket}
use Rattle.vt_procs.specs.declared.ticket.Ticket.TheVariants.{Active, Input}
use Rattle.vt_procs.specs.declared.waiting.Waiting.{Waiting}
use Rattle.vt_procs.specs.declared.waiting.Waiting.TheVariants as waiting
use Rattle.vt_world.proofs.for_laws.Steps.{by_step}
use Rattle.vt_world.specs.Deeds.{Deed, Collects, Own}
use Rattle.vt_world.specs.Heard.{without_marks}
use Rattle.vt_world.specs.History.{replay}
use Rattle.vt_world.specs.RefusalLaws.{BrokenWaitsAreTaken, IsSameWithout, LaterAnswersStay, RefusalsCanGo, RefusalsChangeNothing, accepted_entries, calls, exchanges, is_refusal}
use Rattle.vt_world.specs.Events.{row}
use Rattle.vt_world.specs.Refusals.{caller, has_ticket, holds_ticket, is_empty, target}
use Rattle.vt_world.specs.Rows.{ended_reply, row_of, waits_unless}
use Rattle.vt_world.specs.State.{WorldState}
use Rattle.vt_world.specs.Step.{Outcome, outcome_of_row, row_result_after, row_result, step}

-- no row answers by a refusal
end_accepts : (ended : Waiting) → is_refusal event.WaitEnd (ended_reply ended) ≡ false
end_accepts waiting.Nothing = refl
end_accepts (waiting.Open ticket) = refl
end_accepts waiting.Done = refl
end_accepts waiting.Broken = refl

input_accepts : (fd : ℕ) (there : Bool) (p : ℕ) (ticket : Ticket)
    → is_refusal (event.WaitInput fd) (waits_unless there p ticket).reply ≡ false
input_accepts fd true p ticket = refl
input_accepts fd false p ticket = refl

active_accepts : (fd n : ℕ) (there : Bool) (p : ℕ) (ticket : Ticket)
    → is_refusal (event.WaitActive fd n) (waits_unless there p ticket).reply ≡ false
active_accepts fd n true p ticket = refl
active_accepts fd n false p ticket = refl

row_accepts : (w : WorldState) (p : ℕ) (e : Event) → is_refusal e (row w p e).reply ≡ false
row_accepts w p (event.WaitInput fd) =
    input_accepts fd (not (is_empty w (target w p fd))) p (Input (target w p fd))
row_accepts w p (event.WaitActive fd n) =
    active_accepts fd n (n == w.display.front) p (Active n)
row_accepts w p event.WaitEnd = end_accepts (caller w p).waiting
row_accepts w p e = refl

pub refusals_change_nothing : RefusalsChangeNothing
refusals_change_nothing w p e =
    by_step
    (λ (deeds : List Deed) (after : Outcome).
    is_refusal e after.reply ≡ true → after.world ≡ without_marks w)
    w p e (λ errno refused. refl)
    (λ passed refused. absurd (false≢true (sym (row_accepts (without_marks w) p e) ∙ refused)))

-- the trace of an earlier event makes no difference
untold : (w : WorldState) (entries : List Entry)
    → exchanges (without_marks w) entries ≡ exchanges w entries
untold w [] = refl
untold w (entry ∷ entries) = refl

untold_end : (w : WorldState) (entries : List Entry)
    → without_marks (replay (without_marks w) entries) ≡ without_marks (replay w entries)
untold_end w [] = refl
untold_end w (entry ∷ entries) = refl

pub later_answers_stay : LaterAnswersStay
later_answers_stay w p e later refused =
    ap (λ (v : WorldState). exchanges v later) (refusals_change_nothing w p e refused) ∙ untold w later

-- a list of calls without those that were refused
kept_answers : (w : WorldState) (entry : Entry) (entries : List Entry) (refused : Bool)
    → is_refusal entry.event (step w entry.caller entry.event).reply ≡ refused
    → IsSameWithout (step w entry.caller entry.event).world entries
    → exchanges w
    (calls
    (cond (not refused)
    ((entry, (step w entry.caller entry.event).reply)
    ∷ accepted_entries (exchanges (step w entry.caller entry.event).world entries))
    (accepted_entries (exchanges (step w entry.caller entry.event).world entries))))
    ≡ cond (not refused)
    ((entry, (step w entry.caller entry.event).reply)
    ∷ accepted_entries (exchanges (step w entry.caller entry.event).world entries))
    (accepted_entries (exchanges (step w entry.caller entry.event).world entries))
kept_answers w entry entries true is same =
    let rest : List (Entry × Reply) =
    accepted_entries (exchanges (step w entry.caller entry.event).world entries) in
    sym (later_answers_stay w entry.caller entry.event (calls rest) is) ∙ same.answers
kept_answers w entry entries false is same =
    ap
    (λ (rest : List (Entry × Reply)). (entry, (step w entry.caller entry.event).reply) ∷ rest)
    same.answers

kept_world : (w : WorldState) (entry : Entry) (entries : List Entry) (refused : Bool)
    → is_refusal entry.event (step w entry.caller entry.event).reply ≡ refused
    → IsSameWithout (step w entry.caller entry.event).world entries
    → without_marks
    (replay w
    (calls
    (cond (not refused)
    ((entry, (step w entry.caller entry.event).reply)
    ∷ accepted_entries (exchanges (step w entry.caller entry.event).world entries))
    (accepted_entries (exchanges (step w entry.caller entry.event).world entries)))))
    ≡ without_marks (replay (step w entry.caller entry.event).world entries)
kept_world w entry entries true is same =
    let rest : List (Entry × Reply) =
    accepted_entries (exchanges (step w entry.caller entry.event).world entries) in
    sym
    (ap (λ (v : WorldState). without_marks (replay v (calls rest)))
    (refusals_change_nothing w entry.caller entry.event is)
    ∙ untold_end w (calls rest))
    ∙ same.world
kept_world w entry entries false is same = same.world

pub refusals_can_go : RefusalsCanGo
refusals_can_go w [] = record { answers = refl; world = refl }
refusals_can_go w (entry ∷ entries) =
    let after : Outcome = step w entry.caller entry.event in
    let same : IsSameWithout after.world entries = refusals_can_go after.world entries in
    record {
      answers = kept_answers w entry entries (is_refusal entry.event after.reply) refl same;
      world = kept_world w entry entries (is_refusal entry.event after.reply) refl same;
    }

one_goes : (list : List Process) (p : ℕ) (process : Process)
    → (get_or list p no_caller).live ≡ true → can_go process ≡ true
    → list_any can_go (set list p process) ≡ true
one_goes [] p process live goes = absurd (false≢true live)
one_goes (first ∷ list) zero process live goes = ap (λ b. b || list_any can_go list) goes
one_goes (first ∷ list) (suc p) process live goes =
    or_right (can_go first) (list_any can_go (set list p process))
    (one_goes list p process live goes)

goes_if : (goes : Bool) (callers others : Callers) → goes ≡ true → cond goes callers others ≡ callers
goes_if true callers others is = refl
goes_if false callers others is = absurd (false≢true is)

goes_on : (callers : Callers) (p : ℕ) → is_live callers p ≡ true
    → (caller_at callers p).waiting ≡ waiting.Broken
    → after_idle_rule (after_wait_report p callers) ≡ after_wait_report p callers
goes_on callers p live is =
    let told : Process =
    with_waiting (caller_at callers p) (waiting_after_report (caller_at callers p).waiting) in
    goes_if (list_any can_go (after_wait_report p callers).list) (after_wait_report p callers) _
    (one_goes callers.list p told live
    (and_from (caller_at callers p).live (not (is_open (waiting_after_report (caller_at callers p).waiting))) live (ap (λ (ended : Waiting). not (is_open (waiting_after_report ended))) is)))

abbrev tells_signal : Reply → Bool
tells_signal (reply.Err Intr) = true
tells_signal answer = false

-- a live process learns how its wait ended
own_end : (v : WorldState) (p : ℕ) (ended : Waiting) → is_live v.callers p ≡ true
    → (caller v p).waiting ≡ ended
    → (outcome_of_row
    (row_result v
    (cond (not (has_ticket (waited_of ended))) (Some Inval)
    (cond (is_open ended) (Some Again) None))
    (row_of (ended_reply ended) (Own (Collects p) ∷ [])))).reply ≡ reply.Err Intr
    → (outcome_of_row
    (row_result v
    (cond (not (has_ticket (waited_of ended))) (Some Inval)
    (cond (is_open ended) (Some Again) None))
    (row_of (ended_reply ended) (Own (Collects p) ∷ [])))).world
    ≡ record v { callers = after_wait_report p v.callers }
own_end v p waiting.Nothing live is told = absurd (false≢true (ap tells_signal told))
own_end v p (waiting.Open ticket) live is told = absurd (false≢true (ap tells_signal told))
own_end v p waiting.Done live is told = absurd (false≢true (ap tells_signal told))
own_end v p waiting.Broken live is told =
    ap (λ (callers : Callers). record v { callers = callers }) (goes_on v.callers p live is)

any_end : (v : WorldState) (p : ℕ) (live keyboard ticket : Bool) → is_live v.callers p ≡ live
    → (outcome_of_row
    (row_result_after v p event.WaitEnd
    (cond (not live) (Some Srch)
    (cond (not (not keyboard)) (Some Notty)
    (cond (ticket && false) (Some Inval) None))))).reply ≡ reply.Err Intr
    → (outcome_of_row
    (row_result_after v p event.WaitEnd
    (cond (not live) (Some Srch)
    (cond (not (not keyboard)) (Some Notty)
    (cond (ticket && false) (Some Inval) None))))).world
    ≡ record v { callers = after_wait_report p v.callers }
any_end v p false keyboard ticket is told = absurd (false≢true (ap tells_signal told))
any_end v p true true ticket is told = absurd (false≢true (ap tells_signal told))
any_end v p true false true is told = own_end v p (caller v p).waiting is refl told
any_end v p true false false is told = own_end v p (caller v p).waiting is refl told

pub broken_waits_are_taken : BrokenWaitsAreTaken
broken_waits_are_taken w p told =
    any_end (without_marks w) p (is_live w.callers p) (is_keyboard p) (holds_ticket w p) refl told
