-- Callers after an event: none comes to life, each gets a ticket only by a wait of its own, no ended
-- ticket opens again, and a caller that holds a ticket stays alive.
use Rattle.std.proofs.Common.{◌≡◌, ℕ, ◌<◌, zero, suc, Bool, true, false, cond, ⊎_elim, List, [], ◌∷◌, length, get_or, set, map, refl, sym, subst}
use Rattle.std.proofs.lemmas.Bool.{cases_eq, cases_lt, false≢true}
use Rattle.std.proofs.lemmas.List.{get_or-set_other, get_or-set_same, set_past}
use Rattle.std.specs.List.{list_any}
use Rattle.vt_procs.specs.Callers.{Callers, adds_open, caller_at, after_exit, dead_process, loses_open, no_caller, after_open, after_close, with_caller}
use Rattle.vt_procs.specs.Tickets.{with_accepter, after_signal, can_go, after_wait_report, after_input_on, is_for_display, is_for_input, is_open, waiting_after_report, after_raise, after_idle_rule, after_display_of, with_signal_pending, after_success, after_taking_signals, waited_of, with_waiting, without_pending}
use Rattle.vt_procs.specs.declared.process.Process.{Process}
use Rattle.vt_procs.specs.declared.ticket.Ticket.{Ticket}
use Rattle.vt_procs.specs.declared.waiting.Waiting.{Waiting}
use Rattle.vt_procs.specs.declared.waiting.Waiting.TheVariants.{Nothing, Open, Done, Broken}
use Rattle.vt_world.specs.Refusals.{has_ticket}

-- there is a ticket, open or ended
abbrev pub holds : Waiting → Bool
holds waiting = has_ticket (waited_of waiting)

pub record Ages (a b : Process) : Type 0 where
  pub live : b.live ≡ true → a.live ≡ true
  pub held : holds b.waiting ≡ true → holds a.waiting ≡ true
  pub still : is_open b.waiting ≡ true → is_open a.waiting ≡ true
  pub lives : holds b.waiting ≡ true → a.live ≡ true → b.live ≡ true

pub stays : (a : Process) → Ages a a
stays a = record { live = λ h. h; held = λ h. h; still = λ h. h; lives = λ h l. l }

pub then_ages : (a b c : Process) → Ages a b → Ages b c → Ages a c
then_ages a b c ab bc = record {
  live = λ l. ab.live (bc.live l);
  held = λ h. ab.held (bc.held h);
  still = λ h. ab.still (bc.still h);
  lives = λ h l. bc.lives h (ab.lives (bc.held h) l);
}

-- what a wait can become
broken_held : (w : Waiting) → holds (after_signal w) ≡ true → holds w ≡ true
broken_held Nothing h = h
broken_held (Open ticket) h = refl
broken_held Done h = refl
broken_held Broken h = refl

left_held : (w : Waiting) → holds (waiting_after_report w) ≡ true → holds w ≡ true
left_held Nothing h = h
left_held (Open ticket) h = refl
left_held Done h = refl
left_held Broken h = refl

done_held : (ends : Ticket → Bool) (w : Waiting) → holds (after_success ends w) ≡ true
    → holds w ≡ true
done_held ends Nothing h = h
done_held ends (Open ticket) h = refl
done_held ends Done h = refl
done_held ends Broken h = refl

broken_open : (w : Waiting) → is_open (after_signal w) ≡ true → is_open w ≡ true
broken_open Nothing h = h
broken_open (Open ticket) h = refl
broken_open Done h = h
broken_open Broken h = h

left_open : (w : Waiting) → is_open (waiting_after_report w) ≡ true → is_open w ≡ true
left_open Nothing h = h
left_open (Open ticket) h = refl
left_open Done h = absurd (false≢true h)
left_open Broken h = absurd (false≢true h)

done_open : (ends : Ticket → Bool) (w : Waiting) → is_open (after_success ends w) ≡ true
    → is_open w ≡ true
done_open ends Nothing h = h
done_open ends (Open ticket) h = refl
done_open ends Done h = h
done_open ends Broken h = h

waiting_ages : (a : Process) (w : Waiting) → (holds w ≡ true → holds a.waiting ≡ true)
    → (is_open w ≡ true → is_open a.waiting ≡ true) → Ages a (with_waiting a w)
waiting_ages a w held opens =
    record { live = λ h. h; held = held; still = opens; lives = λ h l. l }

signalled_ages : (a : Process) (s : ℕ) → Ages a (with_signal_pending a s)
signalled_ages a s = record {
  live = λ h. h;
  held = broken_held a.waiting;
  still = broken_open a.waiting;
  lives = λ h l. l;
}

gone_ages : (a : Process) → Ages a (dead_process a)
gone_ages a = record {
  live = λ h. absurd (false≢true h);
  held = λ h. absurd (false≢true h);
  still = λ h. absurd (false≢true h);
  lives = λ h l. absurd (false≢true h);
}

-- a caller of a list in which one has changed
pub at_set : (P : Process → Type 0) (list : List Process) (p q : ℕ) (x : Process)
    → P (get_or list q no_caller) → (q ≡ p → p < length list → P x)
    → P (get_or (set list p x) q no_caller)
at_set P list p q x old new = ⊎_elim
    (λ same. ⊎_elim
    (λ within. subst (λ k. P (get_or (set list p x) k no_caller)) (sym same)
    (subst P (sym (get_or-set_same list p x no_caller within)) (new same within)))
    (λ past. subst (λ l. P (get_or l q no_caller)) (sym (set_past list p x past)) old)
    (cases_lt p (length list)))
    (λ other. subst P (sym (get_or-set_other list p q x no_caller other)) old)
    (cases_eq q p)

-- a caller of a list in which all have changed
pub at_map : (f : Process → Process) → f no_caller ≡ no_caller → (list : List Process) (q : ℕ)
    → get_or (map f list) q no_caller ≡ f (get_or list q no_caller)
at_map f none [] q = sym none
at_map f none (x ∷ list) zero = refl
at_map f none (x ∷ list) (suc q) = at_map f none list q

-- all callers age
abbrev pub AllAge : Callers → Callers → Type 0
AllAge c d = (q : ℕ) → Ages (caller_at c q) (caller_at d q)

pub all_stay : (c : Callers) → AllAge c c
all_stay c q = stays (caller_at c q)

pub then_all : (c d e : Callers) → AllAge c d → AllAge d e → AllAge c e
then_all c d e cd de q = then_ages (caller_at c q) (caller_at d q) (caller_at e q) (cd q) (de q)

one_ages : (c : Callers) (p : ℕ) (x : Process) → Ages (caller_at c p) x → AllAge c (with_caller c p x)
one_ages c p x ages q =
    at_set (Ages (caller_at c q)) c.list p q x (stays (caller_at c q))
    (λ same within. subst (λ k. Ages (caller_at c k) x) (sym same) ages)

pub after_open_age : (c : Callers) (p n : ℕ) → AllAge c (after_open p n c)
after_open_age c p n =
    one_ages c p (adds_open (caller_at c p) n)
    (record { live = λ h. h; held = λ h. h; still = λ h. h; lives = λ h l. l })

pub after_close_age : (c : Callers) (p fd : ℕ) → AllAge c (after_close p fd c)
after_close_age c p fd =
    one_ages c p (loses_open (caller_at c p) fd)
    (record { live = λ h. h; held = λ h. h; still = λ h. h; lives = λ h l. l })

pub after_taking_signals_age : (c : Callers) (p : ℕ) → AllAge c (after_taking_signals p c)
after_taking_signals_age c p =
    one_ages c p (without_pending (caller_at c p))
    (record { live = λ h. h; held = λ h. h; still = λ h. h; lives = λ h l. l })

pub after_wait_report_age : (c : Callers) (p : ℕ) → AllAge c (after_wait_report p c)
after_wait_report_age c p =
    one_ages c p (with_waiting (caller_at c p) (waiting_after_report (caller_at c p).waiting))
    (waiting_ages (caller_at c p) (waiting_after_report (caller_at c p).waiting) (left_held (caller_at c p).waiting) (left_open (caller_at c p).waiting))

pub after_raise_age : (c : Callers) (p s : ℕ) → AllAge c (after_raise p s c)
after_raise_age c p s =
    one_ages c p (with_signal_pending (caller_at c p) s) (signalled_ages (caller_at c p) s)

pub after_exit_age : (c : Callers) (p : ℕ) → AllAge c (after_exit p c)
after_exit_age c p = one_ages c p (dead_process (caller_at c p)) (gone_ages (caller_at c p))

pub with_accepter_age : (c : Callers) (p s : ℕ) → AllAge c (with_accepter p s c)
with_accepter_age c p s q = stays (caller_at c q)

-- each caller changed so
abbrev pub with_all : (Process → Process) → Callers → Callers
with_all f c = record c { list = map f c.list }

all_age : (c : Callers) (f : Process → Process) → f no_caller ≡ no_caller
    → ((a : Process) → Ages a (f a)) → AllAge c (with_all f c)
all_age c f none ages q =
    subst (Ages (caller_at c q)) (sym (at_map f none c.list q)) (ages (caller_at c q))

-- open tickets that pass a test end
abbrev done_all : (Ticket → Bool) → Callers → Callers
done_all ends c =
    with_all (λ process. with_waiting process (after_success ends process.waiting)) c

done_age : (c : Callers) (ends : Ticket → Bool) → AllAge c (done_all ends c)
done_age c ends =
    all_age c (λ process. with_waiting process (after_success ends process.waiting)) refl
    (λ a. waiting_ages a (after_success ends a.waiting) (done_held ends a.waiting) (done_open ends a.waiting))

pub after_display_of_age : (c : Callers) (n : ℕ) → AllAge c (after_display_of n c)
after_display_of_age c n = done_age c (is_for_display n)

pub after_input_on_age : (c : Callers) (n : ℕ) → AllAge c (after_input_on n c)
after_input_on_age c n = done_age c (is_for_input n)

-- every open ticket ends
abbrev pub breaks : Process → Process
breaks process = with_waiting process (after_signal process.waiting)

pub after_idle_rule_age : (c : Callers) → AllAge c (after_idle_rule c)
after_idle_rule_age c =
    elim (list_any can_go c.list) as (λ b. AllAge c (cond b c (with_all breaks c))) [
      | true ↦ all_stay c
      | false ↦ all_age c breaks refl
          (λ a. waiting_ages a (after_signal a.waiting) (broken_held a.waiting) (broken_open a.waiting))
    ]
