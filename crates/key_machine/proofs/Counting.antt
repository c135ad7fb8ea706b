-- The changes of the counts by a key that goes down or up, and the weight that the counts give.
use Rattle.std.proofs.Common.{◌≡◌, ℕ, ◌<◌, ◌^◌, Bool, true, false, cond, List, [], ◌∷◌, get_or, Option, refl, arith, ltb, ⊎_elim}
use Rattle.std.specs.List.{count_by, list_any}
use Rattle.std.proofs.lemmas.Bool.{cases_Bool}
use Rattle.std.proofs.lemmas.Bool.Decides.{nat_tests}
use Rattle.std.proofs.lemmas.List.Sums.{sum_by-cons}
use Rattle.key_machine.specs.Held.{IsCounted, downs, holds_modifier}
use Rattle.key_machine.specs.Keys.{weighs}
use Rattle.key_machine.proofs.Downs.{any_downs}
use Rattle.key_syms.specs.Act.{Act}

-- an element passes where some are counted
pub any_counted : {X : Type 0} (p : X → Bool) (xs : List X) → list_any p xs ≡ ltb 0 (count_by p xs)
any_counted p [] = refl
any_counted p (x ∷ xs) =
    rw (sum_by-cons (λ y. cond (p y) 1 0) x xs) (rw (any_counted p xs) (⊎_elim
    (λ (yes : p x ≡ true). rw yes (grind (arith, nat_tests)))
    (λ (no_pass : p x ≡ false). rw no_pass (grind (arith, nat_tests)))
    (cases_Bool (p x))))

-- a modifier weighs where its count isn't 0
pub weighs_counted : (entries : List (Option Act)) (counts : List ℕ) (v : ℕ) → IsCounted entries counts
    → v < 8 → weighs (downs entries) v ≡ cond (ltb 0 (get_or counts v 0)) (2 ^ v) 0
weighs_counted entries counts v is small =
    rw (is.each v small) (rw (any_downs entries v) (rw (any_counted (holds_modifier v) entries) refl))
