-- A text that grows by pieces, and a list of items that are read one by one.
use Rattle.std.proofs.Common.{◌≡◌, ℕ, zero, suc, ◌+◌, ◌<◌, ◌&&◌, Bool, true, false, List, [], ◌∷◌, ◌++◌, length, get_or, take, set, sym, ap, ◌∙◌, append_assoc, arith}
use Rattle.std.specs.Prelude.{map}
use Rattle.std.specs.List.{list_all, range_with_len}
use Rattle.std.proofs.lemmas.List.{take_more_set}
use Rattle.std.proofs.lemmas.List.Folds.{list_all_at, list_all-append}
use Rattle.std.proofs.lemmas.List.FromFn.{length-range_with_len, get_or-range_with_len, map-range_with_len_more}

-- three pieces, one behind another
pub three_more : (start a b c x y z : List ℕ) → a ≡ start ++ x → b ≡ a ++ y → c ≡ b ++ z → c ≡ start ++ (x ++ y ++ z)
three_more start a b c x y z p q r =
    r ∙ ap (λ t. t ++ z) (q ∙ ap (λ t. t ++ y) p) ∙ simp append_assoc

-- a place where the test fails
pub fails_at : (p : ℕ → Bool) (n k : ℕ) → k < n → p k ≡ false → list_all p (range_with_len 0 n) ≡ false
fails_at p n k h fails =
    list_all_at p (range_with_len 0 n) k 0 (rw length-range_with_len h)
    (ap p (get_or-range_with_len 0 n k 0 h ∙ (let e : 0 + k ≡ k = omega arith in e)) ∙ fails)

range_suc : (a n : ℕ) → range_with_len a (suc n) ≡ range_with_len a n ++ (a + n) ∷ []
range_suc a zero = ap (λ m. m ∷ []) (let e : a ≡ a + 0 = omega arith in e)
range_suc a (suc n) =
    ap (λ ms. a ∷ ms)
    (range_suc (a + 1) n ∙ ap (λ m. range_with_len (a + 1) n ++ m ∷ []) (let e : a + 1 + n ≡ a + suc n = omega arith in e))

-- one more place where it holds
pub holds_more : (p : ℕ → Bool) (k : ℕ) → list_all p (range_with_len 0 k) ≡ true → p k ≡ true → list_all p (range_with_len 0 (k + 1)) ≡ true
holds_more p k so_far here =
    ap (λ n. list_all p (range_with_len 0 n)) (let e : k + 1 ≡ suc k = omega arith in e)
    ∙ ap (list_all p) (range_suc 0 k)
    ∙ list_all-append p (range_with_len 0 k) ((0 + k) ∷ [])
    ∙ ap (λ b. b && (p (0 + k) && true)) so_far
    ∙ ap (λ n. p n && true) (let e : 0 + k ≡ k = omega arith in e)
    ∙ ap (λ b. b && true) here

-- one more item is read
pub item_more : {X : Type 0} (read : ℕ → X) (k : ℕ) (x : X) (before after : List X) → x ≡ read k → after ≡ before ++ x ∷ [] → before ≡ map read (range_with_len 0 k) → after ≡ map read (range_with_len 0 (k + 1))
item_more read k x before after e added so_far =
    added ∙ ap (λ xs. xs ++ x ∷ []) so_far ∙ ap (λ y. map read (range_with_len 0 k) ++ y ∷ []) e
    ∙ sym (map-range_with_len_more read 0 k k (omega arith))

-- and written at its place
pub placed_more : {X : Type 0} (read : ℕ → X) (k : ℕ) (x : X) (xs : List X) → k < length xs → x ≡ read k → take k xs ≡ map read (range_with_len 0 k) → take (k + 1) (set xs k x) ≡ map read (range_with_len 0 (k + 1))
placed_more read k x xs h e so_far = item_more read k x (take k xs) (take (k + 1) (set xs k x)) e (take_more_set xs k x h) so_far
