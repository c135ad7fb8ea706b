-- The longest prefix of a list whose bytes pass.
use Rattle.std.proofs.Common.{◌≡◌, ◌⊎◌, ℕ, Bool, true, false, List, [], ◌∷◌, ◌++◌, refl, ap, ◌∙◌, ⊎_elim, inl, inr}
use Rattle.std.proofs.lemmas.Bool.{cases_Bool, cond-true, cond-false}
use Rattle.std.proofs.lemmas.List.{append-nil}
use Rattle.vt_units.specs.Reading.{after_prefix, longest_prefix}
use Rattle.vt_units.specs.ParserState.{Each}

pub longest_prefix_pass : (p : ℕ → Bool) (xs ys : List ℕ) → Each p xs → longest_prefix p (xs ++ ys) ≡ xs ++ longest_prefix p ys
longest_prefix_pass p [] ys passes = refl
longest_prefix_pass p (x ∷ xs) ys (first, passes) =
    cond-true _ _ _ first ∙ ap (λ zs. x ∷ zs) (longest_prefix_pass p xs ys passes)

pub after_prefix_pass : (p : ℕ → Bool) (xs ys : List ℕ) → Each p xs → after_prefix p (xs ++ ys) ≡ after_prefix p ys
after_prefix_pass p [] ys passes = refl
after_prefix_pass p (x ∷ xs) ys (first, passes) = cond-true _ _ _ first ∙ after_prefix_pass p xs ys passes

pub each_push : (p : ℕ → Bool) (xs : List ℕ) (b : ℕ) → Each p xs → p b ≡ true → Each p (xs ++ b ∷ [])
each_push p [] b passes is = (is, tt)
each_push p (x ∷ xs) b (first, passes) is = (first, each_push p xs b passes is)

pub longest_prefix_stop : (p : ℕ → Bool) (xs : List ℕ) (y : ℕ) (ys : List ℕ) → Each p xs → p y ≡ false
    → longest_prefix p (xs ++ y ∷ ys) ≡ xs
longest_prefix_stop p xs y ys passes stops =
    longest_prefix_pass p xs (y ∷ ys) passes ∙ ap (λ zs. xs ++ zs) (cond-false _ _ _ stops) ∙ append-nil xs

pub after_prefix_stop : (p : ℕ → Bool) (xs : List ℕ) (y : ℕ) (ys : List ℕ) → Each p xs → p y ≡ false
    → after_prefix p (xs ++ y ∷ ys) ≡ y ∷ ys
after_prefix_stop p xs y ys passes stops = after_prefix_pass p xs (y ∷ ys) passes ∙ cond-false _ _ _ stops

-- a byte that doesn't pass, what stands before it and what stands behind it
pub record IsCut (p : ℕ → Bool) (t : List ℕ) : Type 0 where
  pub before : List ℕ
  pub stop : ℕ
  pub after : List ℕ
  pub is : t ≡ before ++ stop ∷ after
  pub passes : Each p before
  pub stops : p stop ≡ false

-- all bytes pass, or one is the first that doesn't
pub cut : (p : ℕ → Bool) (t : List ℕ) → Each p t ⊎ IsCut p t
cut p [] = inl tt
cut p (x ∷ t) = ⊎_elim
    (λ (passes : p x ≡ true). ⊎_elim
    (λ (others : Each p t). inl (passes, others))
    (λ (c : IsCut p t). inr (record {
      before = x ∷ c.before;
      stop = c.stop;
      after = c.after;
      is = ap (λ xs. x ∷ xs) c.is;
      passes = (passes, c.passes);
      stops = c.stops;
    }))
    (cut p t))
    (λ (stops : p x ≡ false).
    inr (record { before = []; stop = x; after = t; is = refl; passes = tt; stops = stops }))
    (cases_Bool (p x))
