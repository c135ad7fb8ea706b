-- Strings that are set one by one.
use Rattle.std.proofs.Common.{◌≡◌, ℕ, ◌+◌, ◌<◌, ◌≤◌, cond, nat_lt, Option, None, List, [], ◌∷◌, ◌++◌, length, get_or, take, refl, sym, ap, subst, ◌∙◌, arith, rules}
use Rattle.std.proofs.lemmas.Bool.{cases_lt, le-ltb, lt-ltb}
use Rattle.std.proofs.lemmas.List.{get_or-map, get_or_past, take_more}
use Rattle.std.specs.Fmt.{digits}
use Rattle.std.specs.List.{slice_index_or}
use Rattle.std.specs.Option.{option_or}
use Rattle.key_tables.specs.Tables.{Tables}
use Rattle.key_text.specs.KeymapLine.{KeymapLine}
use Rattle.key_compile.specs.Pairs.{usual}
use Rattle.key_compile.specs.Puts.{PutsTexts}
use Rattle.key_compile.specs.Strings.{last_text, some_text, text_by, usual_string, usual_texts}
use Rattle.key_compile.specs.Usual.{UsualPairsAreKept, UsualStringsAreKept, bytes_before_zero}
use Rattle.key_compile.proofs.Steps.{or_moved}
use Rattle.key_compile.specs.declared.usual.TheConstants.{USUAL_STRINGS, USUAL_STRING_COUNT}

pub texts_same : (f g : ℕ → Option (List ℕ)) (old new : Tables) → ((i : ℕ) → f i ≡ g i) → PutsTexts f old new → PutsTexts g old new
texts_same f g old new same puts = search rules

pub texts_join : (f g : ℕ → Option (List ℕ)) (old middle new : Tables) → PutsTexts f old middle → PutsTexts g middle new → PutsTexts (λ i. option_or (g i) (f i)) old new
texts_join f g old middle new first second = search rules

last_more : (lines : List KeymapLine) (l : KeymapLine) (i : ℕ) → last_text (lines ++ l ∷ []) i ≡ option_or (text_by l.meaning i) (last_text lines i)
last_more [] l i = search rules
last_more (m ∷ lines) l i = ap (λ x. option_or x (text_by m.meaning i)) (last_more lines l i) ∙ or_moved (text_by l.meaning i) (last_text lines i) (text_by m.meaning i)

pub last_next : (lines : List KeymapLine) (k : ℕ) (d : KeymapLine) → k < length lines → (i : ℕ) → option_or (text_by (get_or lines k d).meaning i) (last_text (take k lines) i) ≡ last_text (take (k + 1) lines) i
last_next lines k d h i = sym (ap (λ ls. last_text ls i) (take_more lines k d h) ∙ last_more (take k lines) (get_or lines k d) i)

pub rows_usual : UsualStringsAreKept
unfolding usual_texts digits
rows_usual = refl

length_rows : length USUAL_STRINGS ≡ USUAL_STRING_COUNT
length_rows = refl

length-usual : length usual_texts ≡ USUAL_STRING_COUNT
unfolding usual_texts
length-usual = refl

pub usual_row : (i : ℕ) → i < USUAL_STRING_COUNT → some_text (bytes_before_zero (slice_index_or USUAL_STRINGS i [])) ≡ usual_string i
unfolding usual_string
usual_row i h =
    let long : i < length USUAL_STRINGS = subst (λ (n : ℕ). i < n) (sym length_rows) h in
    ap some_text (sym (get_or-map bytes_before_zero USUAL_STRINGS i [] [] long) ∙ ap (λ rows. get_or rows i []) rows_usual)

pub pairs_usual : UsualPairsAreKept
unfolding usual
pairs_usual = refl

-- past the usual strings there are none
past_usual : (j : ℕ) → USUAL_STRING_COUNT ≤ j → None ≡ usual_string j
unfolding usual_string
past_usual j h =
    grind (arith, length-usual, get_or_past)

pub usual_all : (k : ℕ) → k ≡ USUAL_STRING_COUNT → (j : ℕ) → cond (nat_lt j k) (usual_string j) None ≡ usual_string j
usual_all k e j = grind (arith, cases_lt, lt-ltb, le-ltb, past_usual)
