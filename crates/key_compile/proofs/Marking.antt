-- Tables that are marked line by line and table by table.
use Rattle.std.proofs.Common.{◌≡◌, ℕ, suc, zero, ◌+◌, ◌<◌, ◌≤◌, Bool, true, false, ◌||◌, cond, List, [], ◌∷◌, ◌++◌, length, take, replicate, append-nil, refl, sym, ap, ◌∙◌, arith}
use Rattle.std.proofs.lemmas.List.{get_or-replicate, length-replicate}
use Rattle.std.specs.List.{list_any, slice_index_or}
use Rattle.key_text.specs.KeymapLine.{LineMeaning, KeymapLine}
use Rattle.key_compile.specs.Union.{IsSetOf, in_union, passing_below, union_of}

-- the tables below t that pass were added
pub record AddedBelow (test : ℕ → Bool) (old new : List Bool) (t : ℕ) : Type 0 where
  pub full : length new ≡ 256
  pub below : (k : ℕ) → k < t → slice_index_or new k false ≡ (slice_index_or old k false || test k)
  pub above : (k : ℕ) → t ≤ k → slice_index_or new k false ≡ slice_index_or old k false

-- the list is of the tables below t
pub record SetBelow (marks : List Bool) (test : ℕ → Bool) (t : ℕ) : Type 0 where
  pub full : length marks ≡ t
  pub each : (k : ℕ) → k < t → slice_index_or marks k false ≡ test k

-- the marks of a union, and of what the first lines name
pub marked_none : (names : ℕ → LineMeaning → Bool) (lines : List KeymapLine) (marks : List Bool) → marks ≡ replicate 256 false → IsSetOf marks (λ t. false || list_any (λ l. names t l.meaning) (take 0 lines))
marked_none names lines marks e = record {
  full = ap length e ∙ length-replicate 256 false;
  each = λ t h. ap (λ ms. slice_index_or ms t false) e ∙ get_or-replicate 256 t false false h;
}

pub passing_below_none : (test : ℕ → Bool) → passing_below test 0 ≡ []
unfolding passing_below
passing_below_none test = refl

pub passing_below-suc : (test : ℕ → Bool) (n : ℕ) → passing_below test (suc n) ≡ passing_below test n ++ cond (test n) (n ∷ []) []
unfolding passing_below
passing_below-suc test n = refl

up : (n : ℕ) → n + 1 ≡ suc n
up n = omega arith

pub passing_below_yes : (test : ℕ → Bool) (n : ℕ) → test n ≡ true → passing_below test (n + 1) ≡ passing_below test n ++ n ∷ []
passing_below_yes test n e =
    ap (passing_below test) (up n) ∙ passing_below-suc test n ∙ ap (λ b. passing_below test n ++ cond b (n ∷ []) []) e

pub passing_below_no : (test : ℕ → Bool) (n : ℕ) → test n ≡ false → passing_below test (n + 1) ≡ passing_below test n
passing_below_no test n e =
    ap (passing_below test) (up n) ∙ passing_below-suc test n ∙ ap (λ b. passing_below test n ++ cond b (n ∷ []) []) e ∙ append-nil (passing_below test n)

pub passing_below_same : (n : ℕ) (f g : ℕ → Bool) → ((t : ℕ) → t < n → f t ≡ g t) → passing_below f n ≡ passing_below g n
passing_below_same zero f g same = passing_below_none f ∙ sym (passing_below_none g)
passing_below_same (suc n) f g same =
    passing_below-suc f n
    ∙ ap (λ front. front ++ cond (f n) (n ∷ []) []) (passing_below_same n f g (λ t h. same t (omega arith)))
    ∙ ap (λ b. passing_below g n ++ cond b (n ∷ []) []) (same n (omega arith))
    ∙ sym (passing_below-suc g n)

-- the tables of the marks of a union
pub marks_union : (lines : List KeymapLine) (marks : List Bool) → IsSetOf marks (in_union lines) → passing_below (λ t. slice_index_or marks t false) 256 ≡ union_of lines
unfolding union_of
marks_union lines marks set = passing_below_same 256 (λ t. slice_index_or marks t false) (in_union lines) set.each
