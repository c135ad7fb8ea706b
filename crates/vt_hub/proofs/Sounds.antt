-- The value under the lock stays sound when a call is entered.
use Rattle.std.proofs.Common.{◌≡◌, ◌≢◌, ⊎_elim, ℕ, Bool, true, false, ◌==◌, ◌&&◌, ◌||◌, not, refl, List, [], ◌∷◌, ◌++◌, length, Option, Some, None, unwrap_or, sym, ap, ◌∙◌, subst, ◌<◌}
use Rattle.std.proofs.lemmas.Bool.{eq-eqb, or_left, or_right}
use Rattle.std.proofs.lemmas.List.{append-nil}
use Rattle.std.proofs.lemmas.List.Sums.{length-filter}
use Rattle.std.specs.List.{count_by}
use Rattle.vt_events.specs.Plain.{plain_reply}
use Rattle.vt_events.specs.Waits.{is_wait}
use Rattle.vt_events.specs.declared.entry.Entry.{Entry}
use Rattle.vt_events.specs.declared.event.Event.{Event}
use Rattle.vt_events.specs.declared.reply.Reply.{Reply}
use Rattle.vt_events.specs.declared.reply.Reply.TheVariants as reply
use Rattle.vt_hub.specs.Histories.{IsFree, awaits, made_by}
use Rattle.vt_hub.specs.Shared.{IsSound, IsStop, SharedView}
use Rattle.vt_hub.specs.Waiters.{AreEnded, AreOpen, IsProcess, has_process}
use Rattle.vt_hub.proofs.Lists.{each_more, made_other, made_own, plain_waits, waits_more}
use Rattle.turn_lock.specs.declared.seal.Seal.{Seal}
use Rattle.vt_journal.specs.declared.full.Full.{Full}
use Rattle.vt_journal.specs.declared.limits.Limits.{Limits}
use Rattle.vt_world.specs.History.{IsEntryOf, Leaves, StepsAreEntered, replay}
use Rattle.vt_world.specs.State.{WorldState, is_waiting}
use Rattle.vt_world.specs.Step.{HasOutcome, Outcome, step}
use Rattle.vt_world.specs.StepLaws.{SizesStay, TicketsAreCalled}

-- the tickets that a call ended, from those that are open before it and after it
pub ended_are : (before after : WorldState) (old new ended : ℕ) → AreOpen before old → AreOpen after new
    → ((p : ℕ) → has_process ended p ≡ (has_process old p && not (has_process new p))) → AreEnded before after ended
ended_are before after old new ended first second is p process =
    is p ∙ (λ i. first p process i && not (second p process i))

-- the tickets that are open after a call of caller p, from those that are open before it
pub open_after : TicketsAreCalled → (v w : WorldState) (p : ℕ) (e : Event) (r : Reply) → HasOutcome (step v p e) w r
    → (old new : ℕ) → AreOpen v old
    → ((q : ℕ) → IsProcess q → has_process new q ≡ (is_waiting w q && (q == p || has_process old q))) → AreOpen w new
open_after called v w p e r gives old new before_is is q process =
    is q process
    ∙ both (is_waiting w q) (q == p || has_process old q) (λ opened.
    let world : (step v p e).world ≡ w = ap (λ (o : Outcome). o.world) gives in
    ⊎_elim
    (λ (before : is_waiting v q ≡ true). or_right (q == p) (has_process old q) (before_is q process ∙ before))
    (λ now. or_left (q == p) (has_process old q) (eq-eqb q p (sym now.0)))
    (called v p e q (ap (λ (x : WorldState). is_waiting x q) world ∙ opened)))
  where
    both : (b x : Bool) → (b ≡ true → x ≡ true) → (b && x) ≡ b
    both true x h = h refl
    both false x h = refl

module _ (start : WorldState) (most : Limits) (v w : SharedView) (p seq : ℕ) (e : Event) (r : Reply)
    (entry : Entry) (of : IsEntryOf p seq e r entry) (gives : HasOutcome (step v.world p e) w.world r)
    (sound : IsSound start most v) where
  left : StepsAreEntered → seq ≡ length (made_by p v.log.entries) → w.log.entries ≡ v.log.entries ++ entry ∷ []
      → Leaves start w.log.entries w.world
  left entered counted more =
      let its : IsEntryOf p (count_by (λ (x : Entry). x.caller == p) v.log.entries) e r entry = record {
        caller = of.caller;
        number = of.number ∙ (counted ∙ length-filter (λ (x : Entry). x.caller == p) v.log.entries);
        event = of.event;
        reply = of.reply;
      } in
      subst (λ (l : List Entry). Leaves start l w.world) (sym more)
      (entered start v.world w.world v.log.entries p e r entry
      (record { legal = sound.legal; replayed = sound.replayed }) gives its)

  -- a caller with an open ticket then was answered "wait" last
  waits : TicketsAreCalled → is_waiting v.world p ≡ false → (q : ℕ)
      → is_waiting w.world q ≡ true
      → awaits (made_by q (v.log.entries ++ entry ∷ [])) ≡ true
  waits called free q opened =
      let world : (step v.world p e).world ≡ w.world = ap (λ (o : Outcome). o.world) gives in
      ⊎_elim
      (λ before.
      let other : entry.caller ≢ q = λ same.
      let also : is_waiting v.world p ≡ true =
      ap (λ (c : ℕ). is_waiting v.world c) (sym of.caller ∙ same) ∙ before in
      absurd (let bad : false ≡ true = sym free ∙ also in cc) in
      ap awaits (made_other q v.log.entries entry other ∙ append-nil (made_by q v.log.entries))
      ∙ sound.tickets q before)
      (λ now.
      let own : entry.caller ≡ q = of.caller ∙ now.0 in
      let answer : plain_reply entry.reply ≡ reply.Wait =
      of.reply ∙ (sym (ap (λ (o : Outcome). o.reply) gives) ∙ now.1) in
      ap awaits (made_own q v.log.entries entry own)
      ∙ (waits_more false (made_by q v.log.entries) entry
      ∙ (sym (plain_waits entry.reply) ∙ ap is_wait answer)))
      (called v.world p e q (ap (λ (x : WorldState). is_waiting x q) world ∙ opened))

  pub enters : StepsAreEntered → SizesStay → TicketsAreCalled
      → is_waiting v.world p ≡ false → seq ≡ length (made_by p v.log.entries)
      → w.log.entries ≡ v.log.entries ++ entry ∷ [] → w.log.limits ≡ v.log.limits
      → w.stop ≡ None → 0 < w.world.display.front → w.world.display.front < 64
      → ((q : ℕ) → IsProcess q → has_process w.waits q ≡ (is_waiting w.world q && (q == p || has_process v.waits q)))
      → IsSound start most w
  enters entered sizes called free counted more limits goes_on low high opened =
      let es : List Entry = v.log.entries in
      let after : Leaves start w.log.entries w.world = left entered counted more in record {
        legal = after.legal;
        replayed = after.replayed;
        free = subst (λ (l : List Entry). IsFree start l) (sym more)
            (each_more (λ before x. is_waiting (replay start before) x.caller ≡ false) es entry
            sound.free (ap (λ (x : WorldState). is_waiting x entry.caller) (sym sound.replayed)
            ∙ (ap (λ (c : ℕ). is_waiting v.world c) of.caller ∙ free)));
        limits = limits ∙ sound.limits;
        rows = sym (ap (λ (o : Outcome). o.world.rows) gives)
            ∙ ((sizes v.world p e).0 ∙ sound.rows);
        cols = sym (ap (λ (o : Outcome). o.world.cols) gives)
            ∙ ((sizes v.world p e).1 ∙ sound.cols);
        display_low = sound.display_low;
        display_high = sound.display_high;
        shown_low = low;
        shown_high = high;
        lawful = sound.lawful;
        tickets = λ q waiting. ap (λ (l : List Entry). awaits (made_by q l)) more
            ∙ waits called free q waiting;
        waits = open_after called v.world w.world p e r gives v.waits w.waits sound.waits opened;
        stops = λ z is. let bad : None ≡ Some z = sym goes_on ∙ is in absurd cc;
      }

-- a state without a stop stays sound when a stop of this history is set
pub sound_stopped : (start : WorldState) (most : Limits) (v : SharedView) (stop : Seal Full) → IsSound start most v
    → IsStop most v.world v.log.entries stop → IsSound start most (record v { stop = Some stop })
sound_stopped start most v stop sound is = record {
  legal = sound.legal;
  replayed = sound.replayed;
  free = sound.free;
  limits = sound.limits;
  rows = sound.rows;
  cols = sound.cols;
  display_low = sound.display_low;
  display_high = sound.display_high;
  shown_low = sound.shown_low;
  shown_high = sound.shown_high;
  lawful = sound.lawful;
  tickets = sound.tickets;
  waits = sound.waits;
  stops = λ z same. subst (IsStop most v.world v.log.entries)
      (ap (λ (o : Option (Seal Full)). unwrap_or o stop) same) is;
}
