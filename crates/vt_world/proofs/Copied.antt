-- Elements that are copied one after another.
use Rattle.std.proofs.Common.{◌≡◌, ℕ, ◌+◌, zero, suc, ◌<◌, List, [], ◌∷◌, ◌++◌, length, take, drop, set, get_or, add-one, refl, sym, ap, ◌∙◌, arith}

more : {A : Type 0} (new old : List A) (i : ℕ) (x : A) → i < length new → length old ≡ length new
    → x ≡ get_or new i x → set (take i new ++ drop i old) i x ≡ take (suc i) new ++ drop (suc i) old
more [] old i x within same is = absurd (let no : ⊥ = omega (arith, within) in no)
more (first ∷ new) [] i x within same is = absurd (let no : ⊥ = omega (arith, same) in no)
more (first ∷ new) (was ∷ old) zero x within same is = ap (λ element. element ∷ old) is
more (first ∷ new) (was ∷ old) (suc i) x within same is =
    ap (λ rest. first ∷ rest) (more new old i x (omega (arith, within)) (omega (arith, same)) is)

-- one element more is copied
pub copied_more : {A : Type 0} (new old now : List A) (i : ℕ) (x y : A) → i < length new
    → length old ≡ length new → now ≡ take i new ++ drop i old → x ≡ get_or new i x → y ≡ x
    → set now i y ≡ take (i + 1) new ++ drop (i + 1) old
copied_more new old now i x y within same at is copy =
    (λ k. set (at k) i (copy k))
    ∙ more new old i x within same is
    ∙ ap (λ n. take n new ++ drop n old) (sym (add-one i))

-- the element at a place that isn't copied yet
pub at_rest : {A : Type 0} (new old now : List A) (i : ℕ) (x : A) → i < length new → length old ≡ length new
    → now ≡ take i new ++ drop i old → x ≡ get_or now i x → x ≡ get_or old i x
at_rest new old now i x within same at is = is ∙ ap (λ all. get_or all i x) at ∙ rest new old i x within same
  where
    rest : {A : Type 0} (new old : List A) (i : ℕ) (x : A) → i < length new → length old ≡ length new
        → get_or (take i new ++ drop i old) i x ≡ get_or old i x
    rest [] old i x within same = absurd (let no : ⊥ = omega (arith, within) in no)
    rest (first ∷ new) [] i x within same = absurd (let no : ⊥ = omega (arith, same) in no)
    rest (first ∷ new) (was ∷ old) zero x within same = refl
    rest (first ∷ new) (was ∷ old) (suc i) x within same = rest new old i x (omega (arith, within)) (omega (arith, same))

-- the element at another place
pub get_other : {A : Type 0} (xs : List A) (i j : ℕ) (y x : A) → i < j → get_or (set xs i y) j x ≡ get_or xs j x
get_other [] i j y x apart = refl
get_other (first ∷ xs) i zero y x apart = absurd (let no : ⊥ = omega (arith, apart) in no)
get_other (first ∷ xs) zero (suc j) y x apart = refl
get_other (first ∷ xs) (suc i) (suc j) y x apart = get_other xs i j y x (omega (arith, apart))

-- an element of a list that got one more
pub get_before : {A : Type 0} (xs : List A) (y x : A) (i : ℕ) → i < length xs → get_or (xs ++ y ∷ []) i x ≡ get_or xs i x
get_before [] y x i within = absurd (let no : ⊥ = omega (arith, within) in no)
get_before (first ∷ xs) y x zero within = refl
get_before (first ∷ xs) y x (suc i) within = get_before xs y x i (omega (arith, within))

pub get_added : {A : Type 0} (xs : List A) (y x : A) (i : ℕ) → i ≡ length xs → get_or (xs ++ y ∷ []) i x ≡ y
get_added [] y x i is = ap (λ k. get_or (y ∷ []) k x) is
get_added (first ∷ xs) y x zero is = absurd (let no : ⊥ = omega (arith, is) in no)
get_added (first ∷ xs) y x (suc i) is = get_added xs y x i (omega (arith, is))

-- an element doesn't depend on what stands for a lacking one
pub get_same : {A : Type 0} (xs : List A) (x y : A) (i : ℕ) → i < length xs → get_or xs i x ≡ get_or xs i y
get_same [] x y i within = absurd (let no : ⊥ = omega (arith, within) in no)
get_same (first ∷ xs) x y zero within = refl
get_same (first ∷ xs) x y (suc i) within = get_same xs x y i (omega (arith, within))

pub length_set : {A : Type 0} (xs : List A) (i : ℕ) (y : A) → length (set xs i y) ≡ length xs
length_set [] i y = refl
length_set (first ∷ xs) zero y = refl
length_set (first ∷ xs) (suc i) y = ap suc (length_set xs i y)
