-- Lists read by `get_elem?`, functions changed at one place, and the pigeonhole principle.
use Rattle.std.proofs.Common.{◌≡◌, ◌≢◌, ℕ, zero, suc, ◌<◌, ◌≤◌, ◌⊎◌, List, [], ◌∷◌, ◌++◌, length}
use Rattle.std.proofs.Common.{get_or, set, sym, refl, ap, ◌∙◌, subst, ⊎_elim, inl, inr, arith, length-set}
use mathlib.Core.Option.{some, some-injective, some-ne-none}
use native.Mathlib.Decide.{ℕ_discrete}
use lib.ListN.{get_elem?}
use Rattle.atomic_table.proofs.Lists.{at_set}

module _ {A : Type 0} where
  abbrev pick : {P : Type 0} → Dec P → A → A → A
  pick (yes _) a b = a
  pick (no _) a b = b

  -- f, except a at i
  pub put : (ℕ → A) → ℕ → A → ℕ → A
  put f i a j = pick (ℕ_discrete j i) a (f j)

  pub put_here : (f : ℕ → A) (i : ℕ) (a : A) → put f i a i ≡ a
  unfolding put
  put_here f i a = go (ℕ_discrete i i)
    where
      go : (d : Dec (i ≡ i)) → pick d a (f i) ≡ a
      go (yes _) = refl
      go (no n) = absurd (n refl)

  pub put_else : (f : ℕ → A) (i : ℕ) (a : A) (j : ℕ) → j ≢ i → put f i a j ≡ f j
  unfolding put
  put_else f i a j other = go (ℕ_discrete j i)
    where
      go : (d : Dec (j ≡ i)) → pick d a (f j) ≡ f j
      go (yes e) = absurd (other e)
      go (no _) = refl

  pub in_range : (l : List A) (i : ℕ) (a : A) → get_elem? l i ≡ some a → i < length l
  in_range [] i a e = absurd (some-ne-none a (sym e))
  in_range (x ∷ xs) zero a e = omega arith
  in_range (x ∷ xs) (suc i) a e = let h = in_range xs i a e in omega arith

  pub element : (l : List A) (i : ℕ) (a : A) → get_elem? l i ≡ some a → get_or l i a ≡ a
  element [] i a e = absurd (some-ne-none a (sym e))
  element (x ∷ xs) zero a e = some-injective x a e
  element (x ∷ xs) (suc i) a e = element xs i a e

  -- an element is the one after the last, or in the list
  pub at_end : (l : List A) (a b : A) (j : ℕ) → get_elem? (l ++ a ∷ []) j ≡ some b
      → (get_elem? l j ≡ some b) ⊎ ((j ≡ length l) × (a ≡ b))
  at_end [] a b zero e = inr (refl, some-injective a b e)
  at_end [] a b (suc j) e = absurd (some-ne-none b (sym e))
  at_end (x ∷ xs) a b zero e = inl e
  at_end (x ∷ xs) a b (suc j) e = ⊎_elim inl (λ t. inr (ap suc t.0, t.1)) (at_end xs a b j e)

  -- if a list holds a and b at one place, they are the same
  pub same_at : (l : List A) (i : ℕ) (a b : A) → get_elem? l i ≡ some a → get_elem? l i ≡ some b
      → a ≡ b
  same_at l i a b p q = some-injective a b (sym p ∙ q)

  module _ (P : ℕ → A → Type 0) where
    -- a fact at each place of a list after a change, an addition at the end and one at the front
    pub each_set : (l : List A) (i : ℕ) (a : A) → P i a
        → ((j : ℕ) (b : A) → j ≢ i → get_elem? l j ≡ some b → P j b) → (j : ℕ) (b : A)
        → get_elem? (set l i a) j ≡ some b → P j b
    each_set l i a here there j b e =
        ⊎_elim (λ t. subst (λ (z : ℕ × A). P z.0 z.1) (λ k. (sym t.0 k, t.1 k)) here)
        (λ t. there j b t.0 t.1) (at_set l i j a b e)

    pub each_end : (l : List A) (a : A) → P (length l) a
        → ((j : ℕ) (b : A) → get_elem? l j ≡ some b → P j b) → (j : ℕ) (b : A)
        → get_elem? (l ++ a ∷ []) j ≡ some b → P j b
    each_end l a here there j b e =
        ⊎_elim (λ q. there j b q) (λ t. subst (λ (z : ℕ × A). P z.0 z.1) (λ k. (sym t.0 k, t.1 k))
        here) (at_end l a b j e)

    pub each_front : (l : List A) (a : A) → P 0 a
        → ((j : ℕ) (b : A) → get_elem? l j ≡ some b → P (suc j) b) → (j : ℕ) (b : A)
        → get_elem? (a ∷ l) j ≡ some b → P j b
    each_front l a here there zero b e = subst (P 0) (some-injective a b e) here
    each_front l a here there (suc j) b e = there j b e

    pub each_none : (j : ℕ) (b : A) → get_elem? [] j ≡ some b → P j b
    each_none j b e = absurd (some-ne-none b (sym e))

    pub each_one : (a : A) → P 0 a → (j : ℕ) (b : A) → get_elem? (a ∷ []) j ≡ some b → P j b
    each_one a here = each_front [] a here (λ j b e. absurd (some-ne-none b (sym e)))

    -- after a split: one place changed, and one added at the end
    pub each_split : (l : List A) (i : ℕ) (a c : A) → P i a → P (length l) c
        → ((j : ℕ) (b : A) → j ≢ i → get_elem? l j ≡ some b → P j b)
        → (j : ℕ) (b : A) → get_elem? (set l i a ++ c ∷ []) j ≡ some b → P j b
    each_split l i a c here last there = each_end (set l i a) c
        (subst (λ (n : ℕ). P n c) (sym (length-set l i a)) last) (each_set l i a here there)

    -- after a join: two places changed
    pub each_join : (l : List A) (i k : ℕ) (a c : A) → P i a → P k c
        → ((j : ℕ) (b : A) → j ≢ i → j ≢ k → get_elem? l j ≡ some b → P j b)
        → (j : ℕ) (b : A) → get_elem? (set (set l i a) k c) j ≡ some b → P j b
    each_join l i k a c here other there = each_set (set l i a) k c other (λ j b ne at.
        ⊎_elim (λ t. subst (λ (z : ℕ × A). P z.0 z.1) (λ m. (sym t.0 m, t.1 m)) here)
        (λ t. there j b t.0 ne t.1) (at_set l i j a b at))

-- g is f, unless f is m; then it is the value of f at n
shrunk : (f : ℕ → ℕ) (n m : ℕ) → ℕ → ℕ
shrunk f n m i = pick (ℕ_discrete (f i) m) (f n) (f i)

shrunk_cases : (f : ℕ → ℕ) (n m i : ℕ)
    → ((f i ≡ m) × (shrunk f n m i ≡ f n)) ⊎ ((f i ≢ m) × (shrunk f n m i ≡ f i))
unfolding shrunk
shrunk_cases f n m i = go (ℕ_discrete (f i) m)
  where
    go : (d : Dec (f i ≡ m)) → ((f i ≡ m) × (pick d (f n) (f i) ≡ f n))
        ⊎ ((f i ≢ m) × (pick d (f n) (f i) ≡ f i))
    go (yes e) = inl (e, refl)
    go (no ne) = inr (ne, refl)

-- n is at most m, if each number below n has a number below m of its own
pub pigeon : (m n : ℕ) (f : ℕ → ℕ) → ((i : ℕ) → i < n → f i < m)
    → ((i j : ℕ) → i < n → j < n → f i ≡ f j → i ≡ j) → n ≤ m
pigeon m zero f low apart = omega arith
pigeon zero (suc n) f low apart = let h = low 0 (omega arith) in absurd (omega arith)
pigeon (suc m) (suc n) f low apart =
    let last = low n (omega arith) in
    let below : (i : ℕ) → i < n → shrunk f n m i < m = λ i h.
    ⊎_elim (λ t. let ne : f n ≢ m = λ e.
    let same = apart i n (omega arith) (omega arith) (t.0 ∙ sym e) in omega arith in
    let e = t.1 in omega arith)
    (λ t. let ne = t.0 in let e = t.1 in let l = low i (omega arith) in omega arith)
    (shrunk_cases f n m i) in
    let apart' : (i j : ℕ) → i < n → j < n → shrunk f n m i ≡ shrunk f n m j
    → i ≡ j = λ i j hi hj same.
    ⊎_elim
    (λ a. ⊎_elim
    (λ b. apart i j (omega arith) (omega arith) (a.0 ∙ sym b.0))
    (λ b. let e = apart n j (omega arith) (omega arith) (sym a.1 ∙ (same ∙ b.1)) in
    absurd (omega arith))
    (shrunk_cases f n m j))
    (λ a. ⊎_elim
    (λ b. let e = apart i n (omega arith) (omega arith) (sym a.1 ∙ (same ∙ b.1)) in
    absurd (omega arith))
    (λ b. apart i j (omega arith) (omega arith) (sym a.1 ∙ (same ∙ b.1)))
    (shrunk_cases f n m j))
    (shrunk_cases f n m i) in
    let h = pigeon m n (shrunk f n m) below apart' in omega arith
