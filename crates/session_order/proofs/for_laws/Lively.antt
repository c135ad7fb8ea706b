-- The facts about callers that every play from a start keeps: a caller whose program is over is dead, a caller
-- with a ticket has waitend as its next call, and if a caller waits, another caller can go on.
use Rattle.std.proofs.Common.{◌≡◌, ℕ, ◌<◌, true, false, ⊎_elim, List, [], ◌∷◌, ◌++◌, Option, Some, None, refl, sym, ap, ◌∙◌, subst}
use Rattle.std.proofs.lemmas.Bool.{and_parts, both_ways, cases_Bool, cases_eq, false_from_ne_true, false≢true, not-true, or_cases, or_from, and_right}
use Rattle.std.proofs.lemmas.Option.{none-some, same_Some}
use Rattle.std.specs.Prelude.{◌&&◌, not}
use Rattle.vt_world.proofs.for_laws.Ages.{holds}
use Rattle.session_order.proofs.for_laws.Callers.{Awake, Sound, Stepped, exit_kills, stepped, waitend_collects}
use Rattle.session_order.proofs.Programs.{Walked, next_alive, next_fine, walked_more}
use Rattle.session_order.proofs.Standings.{calls_mine, calls_others}
use Rattle.session_order.proofs.Steps.{answers}
use Rattle.session_order.specs.Calls.{call_of, calls_by, next_by, next_of}
use Rattle.session_text.specs.Programs.{Call, call, ends, is_exit, is_gone, is_kill, next, program_of}
use Rattle.vt_base.specs.Keyboards.{is_keyboard}
use Rattle.vt_base.specs.Limits.{callers as every_caller}
use Rattle.vt_events.specs.Waits.{is_wait}
use Rattle.session_text.specs.declared.program.Program.{Program}
use Rattle.vt_events.specs.declared.entry.Entry.{Entry}
use Rattle.vt_events.specs.declared.event.Event.{Event}
use Rattle.vt_events.specs.declared.reply.Reply.{Reply}
use Rattle.vt_procs.specs.Callers.{Callers, caller_at, is_live}
use Rattle.vt_procs.specs.Tickets.{is_open}
use Rattle.vt_world.specs.State.{WorldState}
use Rattle.vt_world.specs.Step.{step}
use Rattle.vt_world.specs.Refusals.{ends_wait}
use Rattle.vt_events.specs.declared.event.Event.TheVariants as event
use Rattle.vt_events.specs.declared.reply.Reply.TheVariants as reply

-- p has waitend next, and is no keyboard
pub record HasWaitEnd (p : ℕ) (next : Option Event) : Type 0 where
  pub waitend : next ≡ Some event.WaitEnd
  pub process : is_keyboard p ≡ false

-- the callers c after a history h of the programs
pub record IsLively (programs : List Program) (h : List Entry) (c : Callers) : Type 0 where
  pub sound : Sound c
  pub awake : Awake c
  pub known : (q : ℕ) → is_live c q ≡ true → q < every_caller
  pub over : (q : ℕ) → next_by programs q h ≡ None → is_live c q ≡ false
  pub waits :
      (q : ℕ) → holds (caller_at c q).waiting ≡ true → HasWaitEnd q (next_by programs q h)
  pub walked :
      (q : ℕ) (program : Program) → program_of programs q ≡ Some program
      → Walked (next program) (calls_by q h)

wait_not_gone : (r : Reply) → is_wait r ≡ true → is_gone r ≡ false
wait_not_gone (reply.Err e) wait = absurd (false≢true wait)
wait_not_gone r wait = refl

-- a program that has a next call
pub has_program : (program : Option Program) (made : List Call) (e : Event) → next_of program made ≡ Some e
    → (found : Program) × (program ≡ Some found) × (next found made ≡ Some e)
has_program None made e is = absurd (none-some e is)
has_program (Some found) made e is = (found, refl, is)

-- p's call e of a history, which it can make now
pub record Now (programs : List Program) (h : List Entry) (w : WorldState) (p : ℕ) (e : Event) : Type 0 where
  pub next : next_by programs p h ≡ Some e
  pub shut : is_open (caller_at w.callers p).waiting ≡ false

-- a caller whose call ends its program is dead after it
ending_dies : (programs : List Program) (h : List Entry) (w : WorldState) (p : ℕ) (e : Event)
    → IsLively programs h w.callers → Now programs h w p e
    → ends e (step w p e).reply ≡ true → is_live (step w p e).world.callers p ≡ false
ending_dies programs h w p e lively now last =
    let d : Callers = (step w p e).world.callers in
    let stays_dead : is_live w.callers p ≡ false → is_live d p ≡ false =
    λ dead. false_from_ne_true (is_live d p)
    (λ live. both_ways (is_live w.callers p) dead ((stepped w p e).live p live)) in
    let exits : is_exit e ≡ true → is_live d p ≡ false =
    λ exit. ⊎_elim
    (λ live. ⊎_elim
    (λ held.
    let same : event.WaitEnd ≡ e =
    same_Some event.WaitEnd e (sym (lively.waits p held).waitend ∙ now.next) in
    absurd (false≢true (subst (λ x. is_exit x ≡ true) (sym same) exit)))
    (λ free. exit_kills w p e exit live free)
    (cases_Bool (holds (caller_at w.callers p).waiting)))
    stays_dead (cases_Bool (is_live w.callers p)) in
    ⊎_elim exits
    (λ gone.
    let parts : (not (is_kill e) ≡ true) × (is_gone (step w p e).reply ≡ true) =
    and_parts (not (is_kill e)) (is_gone (step w p e).reply) gone in
    stays_dead ((answers w p e).gone (not-true (is_kill e) parts.0) parts.1))
    (or_cases (is_exit e) (not (is_kill e) && is_gone (step w p e).reply) last)

-- a caller without a ticket that isn't answered wait, or that takes its ticket, has none afterwards
holds_wait : (programs : List Program) (h : List Entry) (w : WorldState) (p : ℕ) (e : Event)
    → IsLively programs h w.callers → Now programs h w p e
    → holds (caller_at (step w p e).world.callers p).waiting ≡ true
    → is_wait (step w p e).reply ≡ true
holds_wait programs h w p e lively now held = ⊎_elim
    (λ wait. wait)
    (λ no.
    let before : holds (caller_at w.callers p).waiting ≡ true = (stepped w p e).own no held in
    let has : HasWaitEnd p (next_by programs p h) = lively.waits p before in
    let same : event.WaitEnd ≡ e = same_Some event.WaitEnd e (sym has.waitend ∙ now.next) in
    let waitend : ends_wait e ≡ true = subst (λ x. ends_wait x ≡ true) same refl in
    absurd (both_ways (holds (caller_at (step w p e).world.callers p).waiting)
    (waitend_collects w p e waitend (lively.sound p before) has.process before now.shut) held))
    (cases_Bool (is_wait (step w p e).reply))

-- a call that is answered wait doesn't end its program
wait_goes_on : (w : WorldState) (p : ℕ) (e : Event) → is_wait (step w p e).reply ≡ true
    → ends e (step w p e).reply ≡ false
wait_goes_on w p e wait =
    let exit : is_exit e ≡ false =
    false_from_ne_true (is_exit e)
    (λ is. both_ways (is_wait (step w p e).reply) ((answers w p e).exit is) wait) in
    or_from (is_exit e) (not (is_kill e) && is_gone (step w p e).reply) exit
    (and_right (not (is_kill e)) (is_gone (step w p e).reply) (wait_not_gone (step w p e).reply wait))

-- a fact about p and about the others is a fact about all
of_each : (Holds : ℕ → Type 0) (p : ℕ) → Holds p → ((q : ℕ) → (q ≡ p → ⊥) → Holds q)
    → (q : ℕ) → Holds q
of_each Holds p own others q =
    ⊎_elim (λ same. subst Holds (sym same) own) (others q) (cases_eq q p)

-- one entry more
pub lively_more : (programs : List Program) (h : List Entry) (w : WorldState) (p : ℕ) (e : Event) (entry : Entry)
    → IsLively programs h w.callers → Now programs h w p e → entry.caller ≡ p
    → call_of entry ≡ call e (step w p e).reply
    → IsLively programs (h ++ entry ∷ []) (step w p e).world.callers
lively_more programs h w p e entry lively now by is =
    let r : Reply = (step w p e).reply in
    let more : List Entry = h ++ entry ∷ [] in
    let d : Callers = (step w p e).world.callers in
    let s : Stepped p w.callers (is_wait r) d = stepped w p e in
    let mine : (q : ℕ) → q ≡ p → calls_by q (h ++ entry ∷ []) ≡ calls_by q h ++ call e r ∷ [] =
    λ q same. calls_mine h entry q (by ∙ sym same) ∙ ap (λ c. calls_by q h ++ c ∷ []) is in
    let others : (q : ℕ) → (q ≡ p → ⊥) → calls_by q (h ++ entry ∷ []) ≡ calls_by q h =
    λ q apart. calls_others h entry q (λ same. apart (sym same ∙ by)) in
    let dead : (q : ℕ) → is_live w.callers q ≡ false → is_live d q ≡ false =
    λ q gone. false_from_ne_true (is_live d q) (λ live. both_ways (is_live w.callers q) gone (s.live q live)) in
    let found : (program : Program) × (program_of programs p ≡ Some program) × (next program (calls_by p h) ≡ Some e) =
    has_program (program_of programs p) (calls_by p h) e now.next in
    let program : Program = found.0 in
    let next_mine : next_by programs p (h ++ entry ∷ []) ≡ next program (calls_by p h ++ call e r ∷ []) =
    λ i. next_of (found.1 i) (mine p refl i) in
    let over_mine : next_by programs p (h ++ entry ∷ []) ≡ None → is_live d p ≡ false =
    λ none. ending_dies programs h w p e lively now
    ((next_alive program).goes (calls_by p h) e r (lively.walked p program found.1) found.2 (sym next_mine ∙ none)) in
    let waits_mine : holds (caller_at d p).waiting ≡ true → HasWaitEnd p (next_by programs p (h ++ entry ∷ [])) =
    λ held.
    let wait : is_wait r ≡ true = holds_wait programs h w p e lively now held in
    record {
      waitend = next_mine ∙ (next_fine program).waits (calls_by p h) e r found.2 (wait_goes_on w p e wait) wait;
      process = (answers w p e).keyboard wait;
    } in
    record {
      sound = s.sound lively.sound;
      awake = s.awake lively.awake;
      known = λ q live. lively.known q (s.live q live);
      over = of_each (λ k. next_by programs k more ≡ None → is_live d k ≡ false) p over_mine
          (λ q apart none. dead q (lively.over q (ap (next_of (program_of programs q)) (sym (others q apart)) ∙ none)));
      waits = of_each (λ k. holds (caller_at d k).waiting ≡ true → HasWaitEnd k (next_by programs k more)) p waits_mine
          (λ q apart held. subst (λ made. HasWaitEnd q (next_of (program_of programs q) made)) (sym (others q apart)) (lively.waits q (s.others q apart held)));
      walked = of_each
          (λ k. (other : Program) → program_of programs k ≡ Some other → Walked (next other) (calls_by k more))
          p
          (λ other is_other. subst (Walked (next other)) (sym (mine p refl))
          (walked_more (next other) (calls_by p h) e r (lively.walked p other is_other)
          (ap (λ o. next_of o (calls_by p h)) (sym is_other) ∙ now.next)))
          (λ q apart other is_other. subst (Walked (next other)) (sym (others q apart)) (lively.walked q other is_other));
    }
