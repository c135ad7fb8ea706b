-- A step opens only the ticket of its caller, and none is open at a start.
use Rattle.std.proofs.Common.{◌≡◌, ◌⊎◌, ℕ, zero, suc, ◌-◌, Bool, true, false, cond, inl, inr, List, [], ◌∷◌, get_or, map, Option, Some, None, refl, sym, subst}
use Rattle.std.specs.List.{range_with_len}
use Rattle.std.specs.Prelude.{◌==◌, nat_lt, slice_get}
use Rattle.vt_base.specs.Limits.{processes}
use Rattle.vt_events.specs.declared.reply.Reply.TheVariants as reply
use Rattle.vt_procs.specs.Callers.{Callers, caller_at, caller_of, keyboard, no_caller, caller_at_start}
use Rattle.vt_procs.specs.Tickets.{is_open, after_idle_rule, waits, with_waiting}
use Rattle.vt_procs.specs.declared.proc_start.ProcStart.{ProcStart}
use Rattle.vt_procs.specs.declared.process.Process.{Process}
use Rattle.vt_procs.specs.declared.waiting.Waiting.TheVariants.{Open}
use Rattle.vt_world.proofs.for_laws.Ages.{AllAge, at_set, after_idle_rule_age, then_all}
use Rattle.vt_world.proofs.for_laws.Steps.{by_step, outcome}
use Rattle.vt_world.proofs.for_laws.Waits.{NoWait, OneWait, RowDoes, apply_deeds_age, row_does}
use Rattle.vt_world.specs.Deeds.{Deed, apply_deeds}
use Rattle.vt_world.specs.Heard.{without_marks}
use Rattle.vt_world.specs.Events.{row}
use Rattle.vt_world.specs.Rows.{EventRow}
use Rattle.vt_world.specs.State.{WorldState, is_waiting}
use Rattle.vt_world.specs.Step.{Outcome}
use Rattle.vt_world.specs.StepLaws.{NobodyWaitsAtStart, TicketsAreCalled}

-- a caller with an open ticket had it before, or is p and was answered "wait"
abbrev IsCalled : WorldState → ℕ → Outcome → Type 0
IsCalled w p after =
    (q : ℕ) → is_waiting after.world q ≡ true
    → (is_waiting w q ≡ true) ⊎ ((p ≡ q) × (after.reply ≡ reply.Wait))

row_opens : (w : WorldState) (p : ℕ) (r : EventRow) → RowDoes p r → IsCalled w p (outcome (without_marks w) r)
row_opens w p _ (NoWait r quiet) q opened =
    let done : Callers = (apply_deeds (without_marks w) r.deeds).callers in
    let ages : AllAge w.callers (after_idle_rule done) =
    then_all w.callers done (after_idle_rule done) (apply_deeds_age (without_marks w) r.deeds quiet)
    (after_idle_rule_age done) in
    inl ((ages q).still opened)
row_opens w p _ (OneWait ticket) q opened =
    let began : Callers = waits p ticket w.callers in
    at_set
    (λ x. is_open x.waiting ≡ true → (is_waiting w q ≡ true) ⊎ ((p ≡ q) × (reply.Wait ≡ reply.Wait)))
    w.callers.list p q (with_waiting (caller_at w.callers p) (Open ticket)) (λ h. inl h)
    (λ same within h. inr (sym same, refl)) ((after_idle_rule_age began q).still opened)

pub tickets_are_called : TicketsAreCalled
tickets_are_called w p e =
    by_step (λ (deeds : List Deed) (after : Outcome). IsCalled w p after) w p e
    (λ errno q opened. inl opened)
    (λ accepted. row_opens w p (row (without_marks w) p e) (row_does (without_marks w) p e))

-- a caller at the start has no ticket
shut_of : (start : Option ProcStart) → is_open (caller_of start).waiting ≡ false
shut_of None = refl
shut_of (Some start) = refl

either_shut : (b : Bool) (x y : Process) → is_open x.waiting ≡ false → is_open y.waiting ≡ false
    → is_open (cond b x y).waiting ≡ false
either_shut true x y first second = first
either_shut false x y first second = second

starts_shut : (keyboards : ℕ) (starts : List ProcStart) (n : ℕ) → is_open (caller_at_start keyboards starts n).waiting ≡ false
starts_shut keyboards starts n =
    let process : Process = caller_of (slice_get starts (n - 1)) in
    let further : Process = keyboard keyboards (n - processes) in
    either_shut (n == 0) (keyboard keyboards 0) (cond (nat_lt processes n) further process) refl
    (either_shut (nat_lt processes n) further process refl (shut_of (slice_get starts (n - 1))))

all_shut : (keyboards : ℕ) (starts : List ProcStart) (numbers : List ℕ) (p : ℕ)
    → is_open (get_or (map (caller_at_start keyboards starts) numbers) p no_caller).waiting ≡ false
all_shut keyboards starts [] p = refl
all_shut keyboards starts (n ∷ numbers) zero = starts_shut keyboards starts n
all_shut keyboards starts (n ∷ numbers) (suc p) = all_shut keyboards starts numbers p

pub nobody_waits_at_start : NobodyWaitsAtStart
nobody_waits_at_start w start p =
    subst (λ (x : WorldState). is_waiting x p ≡ false) (sym start.opened)
    (all_shut start.keyboards start.processes (range_with_len 0 68) p)
