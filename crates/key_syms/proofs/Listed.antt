-- The first symbol of a table that passes a test, by its place.
use Rattle.std.proofs.Common.{◌≡◌, ℕ, zero, suc, ◌<◌, Bool, true, false, Some, None, List, [], ◌∷◌, length, get_or, find, refl, arith}

pub find_none : {X : Type 0} (test : X → Bool) (xs : List X) (d : X) → ((k : ℕ) → k < length xs → test (get_or xs k d) ≡ false) → find test xs ≡ None
find_none test [] d h = refl
find_none test (x ∷ xs) d h =
    let rest : find test xs ≡ None = find_none test xs d (λ k q. h (suc k) (omega arith)) in
    let first : test x ≡ false = h 0 (omega arith) in
    rw first rest

pub find_at : {X : Type 0} (test : X → Bool) (xs : List X) (d : X) (k : ℕ) → k < length xs → test (get_or xs k d) ≡ true → ((j : ℕ) → j < k → test (get_or xs j d) ≡ false) → find test xs ≡ Some (get_or xs k d)
find_at test [] d k h e before = absurd (omega arith)
find_at test (x ∷ xs) d zero h e before = let first : test x ≡ true = e in rw first refl
find_at test (x ∷ xs) d (suc k) h e before =
    let rest : find test xs ≡ Some (get_or xs k d) = find_at test xs d k (omega arith) e (λ j q. before (suc j) (omega arith)) in
    let first : test x ≡ false = before 0 (omega arith) in
    rw first rest
