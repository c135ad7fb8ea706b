-- A run of bytes at the front of an array.
use Rattle.std.proofs.Common.{◌≡◌, ℕ, zero, suc, ◌+◌, ◌<◌, List, [], ◌∷◌, ◌++◌, length, take, set, refl, ap, ◌∙◌, add-one, arith}

-- a byte is added to it
taken : (run : List ℕ) (n b : ℕ) → n < length run → take (suc n) (set run n b) ≡ take n run ++ b ∷ []
taken [] n b low = absurd (omega (arith, low))
taken (x ∷ run) zero b low = refl
taken (x ∷ run) (suc n) b low = ap (λ (rest : List ℕ). x ∷ rest) (taken run n b (omega (arith, low)))

pub one_more : (run : List ℕ) (n b : ℕ) → n < length run → take (n + 1) (set run n b) ≡ take n run ++ b ∷ []
one_more run n b low = ap (λ (k : ℕ). take k (set run n b)) (add-one n) ∙ taken run n b low
