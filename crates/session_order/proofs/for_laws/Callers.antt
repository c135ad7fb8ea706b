-- The callers after a step of the machine.
use Rattle.std.proofs.Common.{◌≡◌, ◌⊎◌, ℕ, Bool, true, false, cond, ⊎_elim, inl, inr, length, get_or, set, Option, Some, None, refl, sym, ap, ◌∙◌, subst}
use Rattle.std.proofs.lemmas.Bool.{and_right, both_ways, cases_Bool, cases_lt, false_from_ne_true, false≢true, true≢false}
use Rattle.std.proofs.lemmas.List.{get_or-set_other, get_or-set_same, get_or_past, set_past}
use Rattle.std.proofs.lemmas.Option.{none-some}
use Rattle.std.specs.List.{list_any}
use Rattle.std.specs.Prelude.{not, ◌&&◌, if◌then◌else◌}
use Rattle.vt_world.proofs.for_laws.Ages.{AllAge, all_stay, at_map, at_set, breaks, holds, after_idle_rule_age, then_all, with_all}
use Rattle.vt_world.proofs.for_laws.Waits.{NoWait, OneWait, RowDoes, apply_deeds_age, row_does, apply_marks_age}
use Rattle.session_order.proofs.Steps.{Accepted, RefusedByAll, RefusedByOwn, StepDoes, accepted, common_none, none_common, step_does}
use Rattle.session_text.specs.Programs.{is_exit}
use Rattle.vt_events.specs.Waits.{is_wait}
use Rattle.vt_base.specs.Keyboards.{is_keyboard}
use Rattle.vt_base.specs.declared.errno.Errno.{Errno}
use Rattle.vt_events.specs.declared.event.Event.{Event}
use Rattle.vt_procs.specs.Callers.{Callers, caller_at, dead_process, is_live, no_caller}
use Rattle.vt_procs.specs.Tickets.{after_signal, can_go, after_wait_report, is_open, waiting_after_report, after_idle_rule, waits, with_waiting}
use Rattle.vt_procs.specs.declared.process.Process.{Process}
use Rattle.vt_procs.specs.declared.ticket.Ticket.{Ticket}
use Rattle.vt_procs.specs.declared.waiting.Waiting.{Waiting}
use Rattle.vt_procs.specs.declared.waiting.Waiting.TheVariants.{Nothing, Open, Done, Broken}
use Rattle.vt_switch.specs.Acts.{End, hop_of}
use Rattle.vt_switch.specs.Moments.{core_after, hop_marks}
use Rattle.vt_world.specs.Deeds.{apply_deeds}
use Rattle.vt_world.specs.Heard.{without_marks, apply_mark, apply_marks}
use Rattle.vt_world.specs.Events.{row}
use Rattle.vt_world.specs.Rows.{EventRow}
use Rattle.vt_world.specs.State.{WorldState, core}
use Rattle.vt_world.specs.Step.{Outcome, step}
use Rattle.vt_world.specs.Refusals.{ends_wait, may_make}
use Rattle.vt_base.specs.declared.errno.Errno.TheVariants as errno
use Rattle.vt_events.specs.declared.event.Event.TheVariants as event
use Rattle.vt_switch.specs.declared.mark.Mark.TheVariants as mark

-- each caller with a ticket lives
abbrev pub Sound : Callers → Type 0
Sound c = (q : ℕ) → holds (caller_at c q).waiting ≡ true → is_live c q ≡ true

-- some live caller has no open ticket, or nobody has one
abbrev pub Awake : Callers → Type 0
Awake c = (list_any can_go c.list ≡ true) ⊎ ((q : ℕ) → is_open (caller_at c q).waiting ≡ false)

-- the facts about the callers that a step of p keeps
pub record Stepped (p : ℕ) (c : Callers) (waits : Bool) (d : Callers) : Type 0 where
  pub live : (q : ℕ) → is_live d q ≡ true → is_live c q ≡ true
  pub sound : Sound c → Sound d
  pub others :
      (q : ℕ) → (q ≡ p → ⊥) → holds (caller_at d q).waiting ≡ true
      → holds (caller_at c q).waiting ≡ true
  pub own :
      waits ≡ false → holds (caller_at d p).waiting ≡ true
      → holds (caller_at c p).waiting ≡ true
  pub awake : Awake c → Awake d

broken_shut : (w : Waiting) → is_open (after_signal w) ≡ false
broken_shut Nothing = refl
broken_shut (Open ticket) = refl
broken_shut Done = refl
broken_shut Broken = refl

all_broken : (c : Callers) → Awake (with_all breaks c)
all_broken c = inr (λ q.
    ap (λ (a : Process). is_open a.waiting) (at_map breaks refl c.list q)
    ∙ broken_shut (caller_at c q).waiting)

settled_awake : (c : Callers) → Awake (after_idle_rule c)
settled_awake c = ⊎_elim
    (λ some. subst Awake (sym (ap (λ b. cond b c (with_all breaks c)) some)) (inl some))
    (λ none. subst Awake (sym (ap (λ b. cond b c (with_all breaks c)) none)) (all_broken c))
    (cases_Bool (list_any can_go c.list))

aged : (p : ℕ) (c d : Callers) (waits : Bool) → AllAge c d → (Awake c → Awake d)
    → Stepped p c waits d
aged p c d waits ages awake = record {
  live = λ q. (ages q).live;
  sound = λ sound q held. (ages q).lives held (sound q ((ages q).held held));
  others = λ q other. (ages q).held;
  own = λ no. (ages p).held;
  awake = awake;
}

-- p, which lives, begins to wait, and the idle rule is applied
begins : (p : ℕ) (c : Callers) (ticket : Ticket) → is_live c p ≡ true
    → Stepped p c true (after_idle_rule (waits p ticket c))
begins p c ticket alive =
    let w : Callers = waits p ticket c in
    let d : Callers = after_idle_rule w in
    let ages : AllAge w d = after_idle_rule_age w in
    let lives : (q : ℕ) → is_live w q ≡ true → is_live c q ≡ true =
    λ q. at_set (λ x. x.live ≡ true → is_live c q ≡ true) c.list p q
    (with_waiting (caller_at c p) (Open ticket)) (λ h. h)
    (λ same within h. subst (λ k. is_live c k ≡ true) (sym same) alive) in
    let sounds : Sound c → Sound w =
    λ sound q. at_set (λ x. holds x.waiting ≡ true → x.live ≡ true) c.list p q
    (with_waiting (caller_at c p) (Open ticket)) (sound q) (λ same within h. alive) in
    let others : (q : ℕ) → (q ≡ p → ⊥) → holds (caller_at w q).waiting ≡ true → holds (caller_at c q).waiting ≡ true =
    λ q other h.
    let here : caller_at w q ≡ caller_at c q =
    get_or-set_other c.list p q (with_waiting (caller_at c p) (Open ticket)) no_caller other in
    subst (λ (a : Process). holds a.waiting ≡ true) here h in
    record {
      live = λ q h. lives q ((ages q).live h);
      sound = λ sound q held. (ages q).lives held (sounds sound q ((ages q).held held));
      others = λ q other h. others q other ((ages q).held h);
      own = λ no. absurd (true≢false no);
      awake = λ awake. settled_awake w;
    }

row_steps : (w : WorldState) (p : ℕ) (r : EventRow) → is_live w.callers p ≡ true → RowDoes p r
    → Stepped p w.callers (is_wait r.reply) (accepted w r).world.callers
row_steps w p _ alive (NoWait r quiet) =
    let done : Callers = (apply_deeds (without_marks w) r.deeds).callers in
    aged p w.callers (after_idle_rule done) (is_wait r.reply)
    (then_all w.callers done (after_idle_rule done) (apply_deeds_age (without_marks w) r.deeds quiet) (after_idle_rule_age done))
    (λ awake. settled_awake done)
row_steps w p _ alive (OneWait ticket) = begins p w.callers ticket alive

does_step : (w : WorldState) (p : ℕ) (e : Event) (o : Outcome) → StepDoes w p e o
    → Stepped p w.callers (is_wait o.reply) o.world.callers
does_step w p e o (RefusedByAll with is) = aged p w.callers w.callers false (all_stay w.callers) (λ awake. awake)
does_step w p e o (RefusedByOwn with none is) = aged p w.callers w.callers false (all_stay w.callers) (λ awake. awake)
does_step w p e o (Accepted none is) =
    row_steps w p (row (without_marks w) p e) (common_none w p e none).0 (row_does (without_marks w) p e)

pub stepped : (w : WorldState) (p : ℕ) (e : Event)
    → Stepped p w.callers (is_wait (step w p e).reply) (step w p e).world.callers
stepped w p e = does_step w p e (step w p e) (step_does w p e)

-- a caller that has changed, or isn't there
at_own : (c : Callers) (p : ℕ) (x : Process) (test : Process → Bool) → test x ≡ false
    → test no_caller ≡ false → test (get_or (set c.list p x) p no_caller) ≡ false
at_own c p x test here none = ⊎_elim
    (λ within. ap test (get_or-set_same c.list p x no_caller within) ∙ here)
    (λ past. ap test (ap (λ l. get_or l p no_caller) (set_past c.list p x past) ∙ get_or_past c.list p no_caller past) ∙ none)
    (cases_lt p (length c.list))

end_kills : (w : WorldState) (p : ℕ)
    → is_live (after_idle_rule (apply_deeds (without_marks w) (row (without_marks w) p event.Exit).deeds).callers) p ≡ false
end_kills w p =
    let v : WorldState = without_marks w in
    let u : WorldState = record v { display = (core_after (core v) (End p)).display } in
    let rest = hop_marks (core_after (core v) (End p)) (hop_of v.display (End p)) in
    let x : WorldState = apply_mark u (mark.Ended p) in
    let y : WorldState = apply_marks x rest in
    let ages : AllAge x.callers (after_idle_rule y.callers) =
    then_all x.callers y.callers (after_idle_rule y.callers) (apply_marks_age rest x) (after_idle_rule_age y.callers) in
    let dead : is_live x.callers p ≡ false =
    at_own w.callers p (dead_process (caller_at w.callers p)) (λ a. a.live) refl refl in
    false_from_ne_true (is_live (after_idle_rule y.callers) p)
    (λ live. both_ways (is_live x.callers p) dead ((ages p).live live))

exit_does : (w : WorldState) (p : ℕ) (o : Outcome) → StepDoes w p event.Exit o
    → is_live w.callers p ≡ true → holds (caller_at w.callers p).waiting ≡ false
    → is_live o.world.callers p ≡ false
exit_does w p o (RefusedByAll with is) alive free =
    absurd (none-some with (sym (none_common w p event.Exit alive refl (λ i. free i && true)) ∙ is))
exit_does w p o (RefusedByOwn with none is) alive free = absurd (none-some with is)
exit_does w p o (Accepted none is) alive free = end_kills w p

-- the exit of a live caller without a ticket ends that caller
pub exit_kills : (w : WorldState) (p : ℕ) (e : Event) → is_exit e ≡ true → is_live w.callers p ≡ true
    → holds (caller_at w.callers p).waiting ≡ false → is_live (step w p e).world.callers p ≡ false
exit_kills w p event.Exit is = exit_does w p (step w p event.Exit) (step_does w p event.Exit)
exit_kills w p e is = absurd (false≢true is)

left_free : (w : Waiting) → is_open w ≡ false → holds (waiting_after_report w) ≡ false
left_free Nothing shut = refl
left_free (Open ticket) shut = absurd (true≢false shut)
left_free Done shut = refl
left_free Broken shut = refl

abbrev waitend_tested : Bool → Bool → Option Errno
waitend_tested held shut =
    if not held then Some errno.Inval else (if shut then Some errno.Again else None)

-- nothing refuses waitend if the caller has a ticket that isn't open
own_tested : (held shut : Bool) → held ≡ true → shut ≡ false
    → waitend_tested held shut ≡ None
own_tested held shut is isnt = λ i. waitend_tested (is i) (isnt i)

collect_does : (w : WorldState) (p : ℕ) (o : Outcome) → StepDoes w p event.WaitEnd o
    → is_live w.callers p ≡ true → is_keyboard p ≡ false
    → holds (caller_at w.callers p).waiting ≡ true
    → is_open (caller_at w.callers p).waiting ≡ false
    → holds (caller_at o.world.callers p).waiting ≡ false
collect_does w p o (RefusedByAll with is) alive process held shut =
    let may : may_make p event.WaitEnd ≡ true = λ i. not (process i) in
    absurd (none-some with (sym (none_common w p event.WaitEnd alive may (and_right (holds (caller_at w.callers p).waiting) false refl)) ∙ is))
collect_does w p o (RefusedByOwn with none is) alive process held shut =
    absurd (none-some with (sym (own_tested (holds (caller_at w.callers p).waiting) (is_open (caller_at w.callers p).waiting) held shut) ∙ is))
collect_does w p o (Accepted none is) alive process held shut =
    let d : Callers = after_wait_report p w.callers in
    let free : holds (caller_at d p).waiting ≡ false =
    at_own w.callers p (with_waiting (caller_at w.callers p) (waiting_after_report (caller_at w.callers p).waiting))
    (λ a. holds a.waiting) (left_free (caller_at w.callers p).waiting shut) refl in
    false_from_ne_true (holds (caller_at (after_idle_rule d) p).waiting)
    (λ h. both_ways (holds (caller_at d p).waiting) free ((after_idle_rule_age d p).held h))

-- waitend of a live caller takes its ticket, if that isn't open
pub waitend_collects : (w : WorldState) (p : ℕ) (e : Event) → ends_wait e ≡ true
    → is_live w.callers p ≡ true → is_keyboard p ≡ false
    → holds (caller_at w.callers p).waiting ≡ true
    → is_open (caller_at w.callers p).waiting ≡ false
    → holds (caller_at (step w p e).world.callers p).waiting ≡ false
waitend_collects w p event.WaitEnd is =
    collect_does w p (step w p event.WaitEnd) (step_does w p event.WaitEnd)
waitend_collects w p e is = absurd (false≢true is)
