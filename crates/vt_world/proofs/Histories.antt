-- Histories that grow by an entry.
use Rattle.std.proofs.Common.{◌≡◌, ℕ, zero, suc, ◌<◌, ◌⊎◌, ⊎_elim, inl, inr, arith, List, [], ◌∷◌, ◌++◌, length, take, Some, refl, sym, ap, ◌∙◌, subst}
use Rattle.std.proofs.Math.Seq.{take-append_seam}
use Rattle.std.proofs.lemmas.List.{take-append-le}
use Rattle.std.proofs.lemmas.Option.{none-some, same_Some, slice_get_within}
use Rattle.std.specs.Prelude.{◌==◌, count_by, slice_get}
use Rattle.vt_events.specs.Plain.{plain_reply}
use Rattle.vt_events.specs.declared.entry.Entry.{Entry}
use Rattle.vt_events.specs.declared.event.Event.{Event}
use Rattle.vt_world.specs.History.{IsNext, LegalGrows, NothingIsLegal, ReplayGrows, StepsAreEntered, replay}
use Rattle.vt_world.specs.State.{WorldState}
use Rattle.vt_world.specs.Step.{Outcome, step}

pub nothing_is_legal : NothingIsLegal
nothing_is_legal start k entry is =
    let within : k < 0 = slice_get_within [] k entry is in
    absurd (let impossible : ⊥ = omega (arith, within) in impossible)

pub replay_grows : ReplayGrows
replay_grows start [] entry = refl
replay_grows start (first ∷ entries) entry =
    replay_grows (step start first.caller first.event).world entries entry

module _ {A : Type 0} where
  -- an element of a list with one more element: an element of the list, or that one
  pub at_either : (xs : List A) (x : A) (k : ℕ) (y : A) → slice_get (xs ++ x ∷ []) k ≡ Some y
      → (slice_get xs k ≡ Some y) ⊎ ((k ≡ length xs) × (x ≡ y))
  at_either [] x zero y is = inr (refl, same_Some x y is)
  at_either [] x (suc k) y is = absurd (none-some y is)
  at_either (z ∷ xs) x zero y is = inl is
  at_either (z ∷ xs) x (suc k) y is =
      ⊎_elim (λ old. inl old) (λ new. inr (ap suc new.0, new.1)) (at_either xs x k y is)

  -- a fact of each element and of those before it
  abbrev pub EachAfter : (List A → A → Type 0) → List A → Type 0
  EachAfter P xs = (k : ℕ) (x : A) → slice_get xs k ≡ Some x → P (take k xs) x

  pub each_more : (P : List A → A → Type 0) (xs : List A) (x : A) → EachAfter P xs → P xs x
      → EachAfter P (xs ++ x ∷ [])
  each_more P xs x each next k found is = ⊎_elim
      (λ old.
      let within : k < length xs = slice_get_within xs k found old in
      subst (λ before. P before found)
      (sym (take-append-le k xs (x ∷ []) (omega (arith, within)))) (each k found old))
      (λ new.
      let before : xs ≡ take k (xs ++ x ∷ []) =
      sym (ap (λ n. take n (xs ++ x ∷ [])) new.0 ∙ take-append_seam xs (x ∷ [])) in
      subst (λ e. P (take k (xs ++ x ∷ [])) e) new.1 (subst (λ list. P list x) before next))
      (at_either xs x k found is)

pub legal_grows : LegalGrows
legal_grows start entries entry legal next = each_more (IsNext start) entries entry legal next

pub steps_are_entered : StepsAreEntered
steps_are_entered start w v entries p e r entry before gives of =
    let stepped : step (replay start entries) entry.caller entry.event ≡ record { world = v; reply = plain_reply r } =
    ap (λ (x : WorldState). step x entry.caller entry.event) (sym before.replayed)
    ∙ (ap (λ (c : ℕ). step w c entry.event) of.caller ∙ (ap (λ (x : Event). step w p x) of.event ∙ gives)) in
    let next : IsNext start entries entry = record {
      answer = of.reply ∙ sym (ap (λ (o : Outcome). o.reply) stepped);
      number =
          of.number
          ∙ ap (λ (c : ℕ). count_by (λ (earlier : Entry). earlier.caller == c) entries) (sym of.caller);
    } in record {
      legal = legal_grows start entries entry before.legal next;
      replayed = sym (replay_grows start entries entry ∙ ap (λ (o : Outcome). o.world) stepped);
    }
