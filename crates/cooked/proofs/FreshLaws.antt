-- The fresh bytes after one more byte.
use Rattle.std.proofs.Common.{◌≡◌, ⊎_elim, ℕ, zero, suc, ◌<◌, ◌≤◌, Bool, true, false, cond, ◌||◌, List, [], ◌∷◌, ◌++◌, length, take, refl, sym, ap, ◌∙◌, arith, length-append}
use Rattle.std.proofs.lemmas.Bool.{cases_Bool, cond-true, cond-false, false≢true, or_from}
use Rattle.std.proofs.lemmas.List.{take_all, take-append-le}
use Rattle.std.proofs.lemmas.List.Folds.{list_any-append}
use Rattle.std.proofs.Math.Bool.{or-true}
use Rattle.std.specs.List.{list_any}
use Rattle.cooked.specs.Fresh.{after_last, ends, fresh, most}
use Rattle.cooked.specs.Kinds.{ends_line, kind}
use Rattle.cooked.specs.declared.termios.Termios.{Termios}

module _ (p : ℕ → Bool) where
  any-more : (xs : List ℕ) (b : ℕ) → list_any p (xs ++ b ∷ []) ≡ (list_any p xs || (p b || false))
  any-more xs b = list_any-append p xs (b ∷ [])

  -- a byte more that passes leaves nothing
  last-passes : (xs : List ℕ) (b : ℕ) → p b ≡ true → after_last p (xs ++ b ∷ []) ≡ []
  last-passes [] b is = cond-true _ _ _ (ap (λ t. t || false) is)
  last-passes (x ∷ xs) b is =
      cond-true _ _ _ (any-more (x ∷ xs) b ∙ ap (λ t. list_any p (x ∷ xs) || (t || false)) is ∙ or-true _)
      ∙ last-passes xs b is

  or-false : (t : Bool) → (t || (false || false)) ≡ t
  or-false true = refl
  or-false false = refl

  -- a byte more that doesn't pass is added
  last-stays : (xs : List ℕ) (b : ℕ) → p b ≡ false → after_last p (xs ++ b ∷ []) ≡ after_last p xs ++ b ∷ []
  last-stays [] b is = cond-false _ _ _ (ap (λ t. t || false) is)
  last-stays (x ∷ xs) b is =
      let same : list_any p (x ∷ (xs ++ b ∷ [])) ≡ list_any p (x ∷ xs) =
      any-more (x ∷ xs) b ∙ ap (λ t. list_any p (x ∷ xs) || (t || false)) is ∙ or-false _ in
      ⊎_elim
      (λ (some : list_any p (x ∷ xs) ≡ true).
      cond-true _ _ _ (same ∙ some)
      ∙ last-stays xs b is
      ∙ ap (λ ys. ys ++ b ∷ []) (sym (cond-true _ _ _ some)))
      (λ (none : list_any p (x ∷ xs) ≡ false).
      cond-false _ _ _ (same ∙ none) ∙ ap (λ ys. ys ++ b ∷ []) (sym (cond-false _ _ _ none)))
      (cases_Bool (list_any p (x ∷ xs)))

  -- if no byte of a list passes, all of them come after the last that passes
  none-pass : (xs : List ℕ) → list_any p xs ≡ false → after_last p xs ≡ xs
  none-pass [] none = refl
  none-pass (x ∷ xs) none = cond-false _ _ _ none

  or-parts : (a b : Bool) → (a || b) ≡ false → (a ≡ false) × (b ≡ false)
  or-parts true b is = absurd (false≢true (sym is))
  or-parts false b is = (refl, is)

  none-after : (xs : List ℕ) → list_any p (after_last p xs) ≡ false
  none-after [] = refl
  none-after (x ∷ xs) = ⊎_elim
      (λ (some : list_any p (x ∷ xs) ≡ true).
      ap (list_any p) (cond-true _ _ _ some) ∙ none-after xs)
      (λ (none : list_any p (x ∷ xs) ≡ false).
      ap (list_any p) (cond-false _ _ _ none) ∙ none)
      (cases_Bool (list_any p (x ∷ xs)))

  none-in-front : (n : ℕ) (xs : List ℕ) → list_any p xs ≡ false → list_any p (take n xs) ≡ false
  none-in-front zero xs none = refl
  none-in-front (suc n) [] none = refl
  none-in-front (suc n) (x ∷ xs) none =
      let both = or-parts (p x) (list_any p xs) none in
      or_from _ _ both.0 (none-in-front n xs both.1)

  -- the first n bytes after the last that passes, with one more byte
  front-more : (n : ℕ) (xs : List ℕ) (b : ℕ)
      → take n (after_last p (xs ++ b ∷ [])) ≡ take n (after_last p (take n (after_last p xs) ++ b ∷ []))
  front-more n xs b = ⊎_elim
      (λ (is : p b ≡ true).
      ap (take n) (last-passes xs b is ∙ sym (last-passes (take n (after_last p xs)) b is)))
      (λ (other : p b ≡ false).
      let left : List ℕ = after_last p xs in
      let front : List ℕ = take n left in
      let whole : after_last p front ≡ front =
      none-pass front (none-in-front n left (none-after xs)) in
      ap (take n) (last-stays xs b other)
      ∙ fits n left b
      ∙ ap (λ ys. take n (ys ++ b ∷ [])) (sym whole)
      ∙ ap (take n) (sym (last-stays front b other)))
      (cases_Bool (p b))
    where
      fits : (n : ℕ) (left : List ℕ) (b : ℕ) → take n (left ++ b ∷ []) ≡ take n (take n left ++ b ∷ [])
      fits zero left b = refl
      fits (suc n) [] b = refl
      fits (suc n) (x ∷ left) b = ap (λ ys. x ∷ ys) (fits n left b)

-- one more byte changes the fresh bytes as it does after the fresh bytes alone
pub fresh_more : (t : Termios) (bytes : List ℕ) (b : ℕ)
    → fresh t (bytes ++ b ∷ []) ≡ fresh t (fresh t bytes ++ b ∷ [])
fresh_more t bytes b = by_mode t.icanon
  where
    by_mode : (canonical : Bool)
        → cond canonical (take most (after_last (ends t) (bytes ++ b ∷ []))) []
        ≡ cond canonical (take most (after_last (ends t) (cond canonical (take most (after_last (ends t) bytes)) [] ++ b ∷ []))) []
    by_mode true = front-more (ends t) most bytes b
    by_mode false = refl

-- after an end no byte is fresh
pub fresh_ended : (t : Termios) (bytes : List ℕ) (b : ℕ) → ends_line (kind t b) ≡ true
    → fresh t (bytes ++ b ∷ []) ≡ []
fresh_ended t bytes b is = by_mode t.icanon
  where
    by_mode : (canonical : Bool) → cond canonical (take most (after_last (ends t) (bytes ++ b ∷ []))) [] ≡ []
    by_mode true = ap (take most) (last-passes (ends t) bytes b is)
    by_mode false = refl

-- fresh bytes, and one more byte that ends no line: it is added, if there is room
module _ (t : Termios) (f : List ℕ) (b : ℕ) (canonical : t.icanon ≡ true) (stays : fresh t f ≡ f)
    (goes_on : ends_line (kind t b) ≡ false) where
  canonically : (bytes : List ℕ) → fresh t bytes ≡ take most (after_last (ends t) bytes)
  canonically bytes = cond-true _ _ _ canonical

  front-of-more : fresh t (f ++ b ∷ []) ≡ take most (after_last (ends t) f ++ b ∷ [])
  front-of-more = canonically (f ++ b ∷ []) ∙ ap (take most) (last-stays (ends t) f b goes_on)

  all-fresh : after_last (ends t) f ≡ f
  all-fresh =
      none-pass (ends t) f
      (ap (list_any (ends t)) (sym (sym (canonically f) ∙ stays))
      ∙ none-in-front (ends t) most (after_last (ends t) f) (none-after (ends t) f))

  pub fresh_added : length f < most → fresh t (f ++ b ∷ []) ≡ f ++ b ∷ []
  fresh_added room =
      front-of-more
      ∙ ap (λ ys. take most (ys ++ b ∷ [])) all-fresh
      ∙ take_all most (f ++ b ∷ []) (omega (arith, length-append f (b ∷ [])))

  pub fresh_full : most ≤ length f → fresh t (f ++ b ∷ []) ≡ f
  fresh_full full =
      front-of-more
      ∙ ap (λ ys. take most (ys ++ b ∷ [])) all-fresh
      ∙ take-append-le most f (b ∷ []) full
      ∙ ap (take most) (sym all-fresh)
      ∙ sym (canonically f)
      ∙ stays
