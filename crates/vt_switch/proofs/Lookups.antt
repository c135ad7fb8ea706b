-- Places of lists, and small facts on tests and options.
use Rattle.std.proofs.Common.{◌≡◌, ◌≢◌, ℕ, zero, suc, true, false, List, [], ◌∷◌, get_or, set, Option, Some, None, refl, sym, ap}
use Rattle.std.specs.Prelude.{◌==◌}
use Rattle.std.proofs.lemmas.Bool.{eqb-false, eqb-true, false≢true}
use Rattle.vt_switch.specs.Calls.{names}

-- a place after a write is what was written or as it was
pub set_either : {A : Type 0} (P : A → Type 0) (xs : List A) (i j : ℕ) (a d : A)
    → P a → P (get_or xs j d) → P (get_or (set xs i a) j d)
set_either P [] i j a d here there = there
set_either P (x ∷ xs) zero zero a d here there = here
set_either P (x ∷ xs) zero (suc j) a d here there = there
set_either P (x ∷ xs) (suc i) zero a d here there = there
set_either P (x ∷ xs) (suc i) (suc j) a d here there = set_either P xs i j a d here there

-- to write what looks the same at its place changes no look
pub set_alike : {A B : Type 0} (look : A → B) (xs : List A) (i j : ℕ) (a d : A)
    → look a ≡ look (get_or xs i d) → look (get_or (set xs i a) j d) ≡ look (get_or xs j d)
set_alike look [] i j a d same = refl
set_alike look (x ∷ xs) zero zero a d same = same
set_alike look (x ∷ xs) zero (suc j) a d same = refl
set_alike look (x ∷ xs) (suc i) zero a d same = refl
set_alike look (x ∷ xs) (suc i) (suc j) a d same = set_alike look xs i j a d same

pub unequal : (n m : ℕ) → (n == m) ≡ false → m ≢ n
unequal n m other same = eqb-false n m other (sym same)

pub named : (p : ℕ) (o : Option ℕ) → names p o ≡ true → o ≡ Some p
named p None is = absurd (false≢true is)
named p (Some n) is = ap Some (eqb-true n p is)
