-- Machines that are kept.
use Rattle.std.proofs.Common.{◌≡◌, ◌⊎◌, inl, inr, ⊎_elim, ℕ, ◌+◌, ◌<◌, zero, suc, arith, List, [], ◌∷◌, ◌++◌, length, take, get_or, set, Option, Some, None, option_map, option_to_list, refl, sym, ap, ◌∙◌, subst, add-one}
use Rattle.std.proofs.lemmas.Option.{same_Some}
use Rattle.std.specs.Prelude.{Err, Ok, OnOk, Result, slice_get}
use Rattle.vt_explore.proofs.Nevers.{get_first, get_last, turns_append}
use Rattle.vt_explore.proofs.Sorted.{get_either, get_only}
use Rattle.vt_explore.specs.Held.{AreHeld, Begins, HeldState, IsHeld}
use Rattle.vt_explore.specs.Positions.{AreSame, HaveSameTables, IsAfter}
use Rattle.vt_explore.specs.declared.position.Position.{Position}
use Rattle.session_order.specs.Ends.{Setup}
use Rattle.session_order.specs.Orders.{after_turn, history_of}

-- machines of one session have the same tables unless a call set them
pub same_tables : (o : Setup) (a b : HeldState) → IsHeld o a → IsHeld o b
    → HaveSameTables a.position b.position
same_tables o a b at_a at_b = λ one other. at_a.tables one ∙ sym (at_b.tables other)

-- one turn more
pub turned : (o : Setup) (order longer : List ℕ) (n : ℕ) (m : Position) → longer ≡ order ++ n ∷ []
    → IsAfter o (after_turn o n (history_of o order)) m → IsAfter o (history_of o longer) m
turned o order longer n m is at =
    subst (λ made. IsAfter o made m) (sym (ap (history_of o) is ∙ turns_append o order n [])) at

-- one machine more
pub held_more : (o : Setup) (all new : List HeldState) (held : HeldState) → AreHeld o all → IsHeld o held
    → new ≡ all ++ held ∷ [] → AreHeld o new
held_more o all new held are is new_is = λ k one at.
    ⊎_elim
    (λ first. are k one first)
    (λ last. subst (IsHeld o) (get_only held one last.1.0 last.1.1) is)
    (get_either all (held ∷ []) k one (subst (λ list. slice_get list k ≡ Some one) new_is at))

-- without the last one
pub held_less : (o : Setup) (all new : List HeldState) (last : Option HeldState) → AreHeld o all
    → all ≡ new ++ option_to_list last → AreHeld o new
held_less o all new last are is = λ k one at.
    are k one (subst (λ list. slice_get list k ≡ Some one) (sym is) (get_first new (option_to_list last) k one at))

pub held_last : (o : Setup) (all new : List HeldState) (last : Option HeldState) (held : HeldState) → AreHeld o all
    → all ≡ new ++ option_to_list last → last ≡ Some held → IsHeld o held
held_last o all new last held are is some =
    are (length new) held
    (subst (λ list. slice_get list (length new) ≡ Some held)
    (sym (is ∙ ap (λ found. new ++ option_to_list found) some)) (get_last new held))

-- another one at a place
set_cases : {A : Type 0} (xs : List A) (i k : ℕ) (y x : A) → slice_get (set xs i y) k ≡ Some x
    → (y ≡ x) ⊎ (slice_get xs k ≡ Some x)
set_cases [] i k y x is = inr is
set_cases (first ∷ xs) zero zero y x is = inl (same_Some y x is)
set_cases (first ∷ xs) zero (suc k) y x is = inr is
set_cases (first ∷ xs) (suc i) zero y x is = inr is
set_cases (first ∷ xs) (suc i) (suc k) y x is = set_cases xs i k y x is

pub held_set : (o : Setup) (all new : List HeldState) (i : ℕ) (held : HeldState) → AreHeld o all → IsHeld o held
    → new ≡ set all i held → AreHeld o new
held_set o all new i held are is new_is = λ k one at.
    ⊎_elim
    (λ same. subst (IsHeld o) same is)
    (λ old. are k one old)
    (set_cases all i k held one (subst (λ list. slice_get list k ≡ Some one) new_is at))

-- no turn is left out
pub begins_none : (order first : List ℕ) → first ≡ [] → Begins order first
begins_none order first none = subst (Begins order) (sym none) (record { few = omega arith; same = refl })

-- one turn more of the order
pub take_next : (order : List ℕ) (k lacking : ℕ) → k < length order
    → take k order ++ get_or order k lacking ∷ [] ≡ take (k + 1) order
take_next order k lacking low = next order k low ∙ ap (λ j. take j order) (sym (add-one k))
  where
    next : (xs : List ℕ) (j : ℕ) → j < length xs → take j xs ++ get_or xs j lacking ∷ [] ≡ take (suc j) xs
    next [] j low = absurd (let no : ⊥ = omega (arith, low) in no)
    next (first ∷ xs) zero low = refl
    next (first ∷ xs) (suc j) low = ap (λ rest. first ∷ rest) (next xs j (omega (arith, low)))

-- what was found, as contracts see it
pub found_some : {A B : Type 0} (f : A → B) (found : Option A) (seen : Option B) (x : A)
    → option_map f found ≡ seen → found ≡ Some x → seen ≡ Some (f x)
found_some f found seen x is some = sym is ∙ ap (option_map f) some

pub found_none : {A B : Type 0} (f : A → B) (found : Option A) (seen : Option B) → option_map f found ≡ seen
    → found ≡ None → seen ≡ None
found_none f found seen is none = sym is ∙ ap (option_map f) none

-- machines that are seen through their boxes
pub seen_same : (a b m n : Position) → m ≡ a → n ≡ b → (HaveSameTables m n → AreSame m n) → HaveSameTables a b
    → AreSame a b
seen_same a b m n at_a at_b same tables =
    let one : HaveSameTables a n → AreSame a n = subst (λ x. HaveSameTables x n → AreSame x n) at_a same in
    let both : HaveSameTables a b → AreSame a b = subst (λ y. HaveSameTables a y → AreSame a y) at_b one in
    both tables

pub seen_copied : (a b m n new : Position) → m ≡ a → n ≡ b → (HaveSameTables m n → new ≡ n) → HaveSameTables a b
    → new ≡ b
seen_copied a b m n new at_a at_b copied tables =
    let one : HaveSameTables a n → new ≡ n = subst (λ x. HaveSameTables x n → new ≡ n) at_a copied in
    let both : HaveSameTables a b → new ≡ b = subst (λ y. HaveSameTables a y → new ≡ y) at_b one in
    both tables

-- a fact that holds after every answer
pub on_ok : {A E : Type 0} {fact : Type 0} (result : Result A E) → fact → OnOk result fact
on_ok (Ok x) is = is
on_ok (Err e) is = tt
