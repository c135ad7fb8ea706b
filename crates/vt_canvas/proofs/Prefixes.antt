-- The prefix of a list whose elements pass a test.
use Rattle.std.proofs.Common.{◌≡◌, ◌≤◌, ℕ, suc, ◌+◌, length, Bool, true, false, List, [], ◌∷◌, take, refl, ap, ◌∙◌, arith}
use Rattle.std.specs.List.{list_all, prefix_len}
use Rattle.std.proofs.lemmas.Bool.{and_from, cond-false, cond-true}
use Rattle.std.proofs.lemmas.List.Sums.{prefix_len-le-length}
use Rattle.vt_cells.specs.Width.{is_plain}

prefix-all : (p : ℕ → Bool) (xs : List ℕ) → list_all p (take (prefix_len p xs) xs) ≡ true
prefix-all p [] = refl
prefix-all p (x ∷ xs) = by (p x) refl (prefix-all p xs)
  where
    by : (test : Bool) → p x ≡ test → list_all p (take (prefix_len p xs) xs) ≡ true
        → list_all p (take (prefix_len p (x ∷ xs)) (x ∷ xs)) ≡ true
    by true is others =
        let n : ℕ = prefix_len p xs in
        let next : 1 + n ≡ suc n = omega arith in
        ap (λ (k : ℕ). list_all p (take k (x ∷ xs))) (cond-true (p x) (1 + n) 0 is ∙ next)
        ∙ and_from (p x) (list_all p (take n xs)) is others
    by false is others = ap (λ (k : ℕ). list_all p (take k (x ∷ xs))) (cond-false (p x) (1 + prefix_len p xs) 0 is)

pub prefix_all : (p : ℕ → Bool) (xs : List ℕ) (n : ℕ) → n ≡ prefix_len p xs → list_all p (take n xs) ≡ true
prefix_all p xs n is = ap (λ (k : ℕ). list_all p (take k xs)) is ∙ prefix-all p xs

pub plain_within : (codes : List ℕ) → prefix_len is_plain codes ≤ length codes
plain_within codes = prefix_len-le-length is_plain codes
