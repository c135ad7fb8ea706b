-- The digits and semicolons at the start of a text.
use Rattle.std.proofs.Common.{◌≡◌, ℕ, ◌<◌, ◌+◌, subst, Bool, true, false, List, [], ◌∷◌, ◌++◌, length, drop, get_or, refl, sym, ap, ◌∙◌}
use Rattle.std.specs.List.{list_all}
use Rattle.std.proofs.lemmas.Bool.{and_from, cond-true, cond-false}
use Rattle.std.proofs.lemmas.List.{drop_more}
use Rattle.vt_units.specs.Reading.{after_prefix, longest_prefix}
use Rattle.vt_units.specs.ParserState.{Each}

-- the byte at i passes: it is the first of the front of what is left
pub longest_prefix_goes : (p : ℕ → Bool) (text : List ℕ) (i : ℕ) → i < length text → p (get_or text i 0) ≡ true
    → (longest_prefix p (drop i text) ≡ get_or text i 0 ∷ longest_prefix p (drop (i + 1) text))
    × (after_prefix p (drop i text) ≡ after_prefix p (drop (i + 1) text))
longest_prefix_goes p text i within passes =
    let first : drop i text ≡ get_or text i 0 ∷ drop (i + 1) text = drop_more text i 0 within in (
      ap (longest_prefix p) first ∙ cond-true _ _ _ passes,
      ap (after_prefix p) first ∙ cond-true _ _ _ passes,
    )

-- it doesn't: the front has ended
pub longest_prefix_stops : (p : ℕ → Bool) (text : List ℕ) (i : ℕ) → i < length text → p (get_or text i 0) ≡ false
    → (longest_prefix p (drop i text) ≡ []) × (after_prefix p (drop i text) ≡ drop i text)
longest_prefix_stops p text i within stops =
    let first : drop i text ≡ get_or text i 0 ∷ drop (i + 1) text = drop_more text i 0 within in (
      ap (longest_prefix p) first ∙ cond-false _ _ _ stops,
      ap (after_prefix p) first ∙ cond-false _ _ _ stops ∙ sym first,
    )

-- a text is its front and what stands behind it
pub longest_prefix-after_prefix : (p : ℕ → Bool) (text : List ℕ) → text ≡ longest_prefix p text ++ after_prefix p text
longest_prefix-after_prefix p [] = refl
longest_prefix-after_prefix p (x ∷ text) = by (p x) refl (longest_prefix-after_prefix p text)
  where
    by : (test : Bool) → p x ≡ test → text ≡ longest_prefix p text ++ after_prefix p text
        → x ∷ text ≡ longest_prefix p (x ∷ text) ++ after_prefix p (x ∷ text)
    by true is others = ap (λ (xs : List ℕ). x ∷ xs) others
        ∙ (λ i. sym (cond-true (p x) (x ∷ longest_prefix p text) [] is) i ++ sym (cond-true (p x) (after_prefix p text) (x ∷ text) is) i)
    by false is others =
        (λ i. sym (cond-false (p x) (x ∷ longest_prefix p text) [] is) i ++ sym (cond-false (p x) (after_prefix p text) (x ∷ text) is) i)

pub longest_prefix_each : (p : ℕ → Bool) (text : List ℕ) → Each p (longest_prefix p text)
longest_prefix_each p [] = tt
longest_prefix_each p (x ∷ text) = by (p x) refl (longest_prefix_each p text)
  where
    by : (test : Bool) → p x ≡ test → Each p (longest_prefix p text) → Each p (longest_prefix p (x ∷ text))
    by true is others = subst (Each p) (sym (cond-true (p x) (x ∷ longest_prefix p text) [] is)) (is, others)
    by false is others = subst (Each p) (sym (cond-false (p x) (x ∷ longest_prefix p text) [] is)) tt

pub each_all : (p : ℕ → Bool) (text : List ℕ) → Each p text → list_all p text ≡ true
each_all p [] passes = refl
each_all p (x ∷ text) (first, others) = and_from _ _ first (each_all p text others)

pub each_map : (p q : ℕ → Bool) → ((x : ℕ) → p x ≡ true → q x ≡ true) → (text : List ℕ) → Each p text → Each q text
each_map p q leads [] passes = tt
each_map p q leads (x ∷ text) (first, others) = (leads x first, each_map p q leads text others)
