-- Texts cut into words at their blanks.
use Rattle.std.proofs.Common.{◌≡◌, ℕ, ◌+◌, Bool, true, false, eqb, cond, ltb, Option, Some, None, List, [], ◌∷◌, length, take, drop, length-drop, ◌-◌, refl, sym, ap, ◌∙◌}
use Rattle.std.proofs.Math.Seq.{take-length}
use Rattle.std.specs.List.{onto_first, position, position_from, position_or_len}
use Rattle.std.proofs.lemmas.Bool.{ltb-true}
use Rattle.std.proofs.lemmas.List.Splits.{slice_split_first, slice_split-cons_no}
use Rattle.std.proofs.lemmas.Iterator.Adapters.{position_from-zero}
use Rattle.vt_journal.specs.Cut.{words_of_text}
use Rattle.vt_journal.specs.Readers.{if_none_left}

-- the first word ends at the first blank
pub cut_at : (text : List ℕ) (i : ℕ) → Some i ≡ position (λ b. eqb b 0x20) text
    → words_of_text text ≡ take i text ∷ words_of_text (drop (i + 1) text)
cut_at text i is = by_test (ltb n (length text)) refl is
  where
    n : ℕ
    n = position_or_len (λ b. eqb b 0x20) text

    by_test : (b : Bool) → ltb n (length text) ≡ b → Some i ≡ cond b (Some n) None
        → words_of_text text ≡ take i text ∷ words_of_text (drop (i + 1) text)
    by_test true within here =
        let same : i ≡ n = cc in
        slice_split_first (λ b. eqb b 0x20) text 0 (ltb-true n (length text) within)
        ∙ ap (λ j. take j text ∷ words_of_text (drop (j + 1) text)) (sym same)
    by_test false past here = cc

-- with no blank, the text is one word
none_from : (text : List ℕ) (j : ℕ) → None ≡ position_from (λ b. eqb b 0x20) j text
    → words_of_text text ≡ text ∷ []
none_from [] j none = refl
none_from (b ∷ text) j none = by_test (eqb b 0x20) refl none (none_from text (j + 1))
  where
    by_test : (r : Bool) → eqb b 0x20 ≡ r
        → None ≡ cond r (Some j) (position_from (λ b. eqb b 0x20) (j + 1) text)
        → (None ≡ position_from (λ b. eqb b 0x20) (j + 1) text → words_of_text text ≡ text ∷ [])
        → words_of_text (b ∷ text) ≡ (b ∷ text) ∷ []
    by_test true is here others = cc
    by_test false is here others =
        slice_split-cons_no (λ b. eqb b 0x20) b text is ∙ ap (onto_first b) (others here)

pub cut_none : (text : List ℕ) → None ≡ position (λ b. eqb b 0x20) text → words_of_text text ≡ text ∷ []
cut_none text none =
    none_from text 0 (none ∙ position_from-zero (λ b. eqb b 0x20) text)

-- the text after the first n
pub rest_is : (text : List ℕ) (n : ℕ) → take (length text - n) (drop n text) ≡ drop n text
rest_is text n =
    ap (λ m. take m (drop n text)) (sym (length-drop n text)) ∙ take-length (drop n text)

-- a text has a word, so none is the last
pub some_left : {X : Type 0} (text : List ℕ) (taken : Option X) → None ≡ if_none_left (words_of_text text) taken
some_left [] taken = refl
some_left (b ∷ text) taken = by_test (eqb b 0x20) (words_of_text text)
  where
    by_test : (r : Bool) (words : List (List ℕ))
        → None ≡ if_none_left (cond r ([] ∷ words) (onto_first b words)) taken
    by_test true words = refl
    by_test false [] = refl
    by_test false (word ∷ words) = refl
