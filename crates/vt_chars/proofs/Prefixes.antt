-- The beginnings of well-formed sequences.
use Rattle.std.proofs.Common.{◌≡◌, ◌≢◌, ℕ, ◌==◌, ◌≤◌, ◌<◌, true, false, cond, ◌&&◌, List, [], ◌∷◌, ◌++◌, refl, sym, ap, ◌∙◌, arith, ⊎_elim, ◌↔◌}
use Rattle.std.proofs.lemmas.Bool.{and_parts, and_from, cases_Bool, cases_lt, cond-true, cond-false, false_from_ne_true, false≢true}
use Rattle.std.proofs.lemmas.Bool.Decides.{nat_tests}
use Rattle.vt_chars.specs.Push.{got_by, got_of, malformed_by}
use Rattle.vt_chars.specs.Utf8.{Begins, UnfinishedBegins, code_of, decoding_of, is_begun, is_second, is_tail, is_well_formed, within}
use Rattle.vt_chars.specs.declared.decoded.Decoded.TheVariants.{Character, Unfinished, Malformed}
use Rattle.vt_chars.specs.declared.got.Got.TheVariants.{More}

some : (x : ℕ) (xs : List ℕ) → x ∷ xs ≢ []
some x xs e = cc

-- a second byte that the first one allows
abbrev second_for : ℕ → ℕ
second_for a = cond (a == 0xE0) 0xA0 (cond (a == 0xF0) 0x90 0x80)

second_allowed : (a : ℕ) → is_second a (second_for a) ≡ true
second_allowed a = grind (arith, nat_tests)

begun_one : (a : ℕ) → within 0xC2 0xF4 a ≡ true → Begins (a ∷ [])
begun_one a is = ⊎_elim
    (λ (short : a < 0xE0). (0x80 ∷ [], some _ _, grind (arith, nat_tests)))
    (λ (long : 0xE0 ≤ a). ⊎_elim
    (λ (middle : a < 0xF0). (second_for a ∷ 0x80 ∷ [], some _ _, grind (arith, nat_tests, second_allowed a)))
    (λ (longest : 0xF0 ≤ a). (second_for a ∷ 0x80 ∷ 0x80 ∷ [], some _ _, grind (arith, nat_tests, second_allowed a)))
    (cases_lt a 0xF0))
    (cases_lt a 0xE0)

begun_two : (a b : ℕ) → within 0xE0 0xF4 a ≡ true → is_second a b ≡ true → Begins (a ∷ b ∷ [])
begun_two a b first second = ⊎_elim
    (λ (short : a < 0xF0). (0x80 ∷ [], some _ _, grind (arith, nat_tests)))
    (λ (long : 0xF0 ≤ a). (0x80 ∷ 0x80 ∷ [], some _ _, grind (arith, nat_tests)))
    (cases_lt a 0xF0)

begun_three : (a b c : ℕ) → within 0xF0 0xF4 a ≡ true → is_second a b ≡ true → is_tail c ≡ true
    → Begins (a ∷ b ∷ c ∷ [])
begun_three a b c first second third = (0x80 ∷ [], some _ _, grind (arith, nat_tests))

pub begun_begins : (text : List ℕ) → is_begun text ≡ true → Begins text
begun_begins [] is = absurd (false≢true is)
begun_begins (a ∷ []) is = begun_one a is
begun_begins (a ∷ b ∷ []) is =
    let p : (within 0xE0 0xF4 a ≡ true) × (is_second a b ≡ true) = and_parts _ _ is in
    begun_two a b p.0 p.1
begun_begins (a ∷ b ∷ c ∷ []) is =
    let q : ((within 0xF0 0xF4 a && is_second a b) ≡ true) × (is_tail c ≡ true) = and_parts _ _ is in
    let p : (within 0xF0 0xF4 a ≡ true) × (is_second a b ≡ true) = and_parts _ _ q.0 in
    begun_three a b c p.0 p.1 q.1
begun_begins (a ∷ b ∷ c ∷ d ∷ rest) is = absurd (false≢true is)

prefix : (text more : List ℕ) → text ≢ [] → more ≢ [] → is_well_formed (text ++ more) ≡ true
    → is_begun text ≡ true
prefix [] more some rest is = absurd (some refl)
prefix text [] some rest is = absurd (rest refl)
prefix (a ∷ []) (b ∷ []) some rest is = grind (arith, nat_tests)
prefix (a ∷ []) (b ∷ c ∷ []) some rest is = grind (arith, nat_tests)
prefix (a ∷ []) (b ∷ c ∷ d ∷ []) some rest is = grind (arith, nat_tests)
prefix (a ∷ []) (b ∷ c ∷ d ∷ e ∷ more) some rest is = absurd (false≢true is)
prefix (a ∷ b ∷ []) (c ∷ []) some rest is = grind (arith, nat_tests)
prefix (a ∷ b ∷ []) (c ∷ d ∷ []) some rest is = grind (arith, nat_tests)
prefix (a ∷ b ∷ []) (c ∷ d ∷ e ∷ more) some rest is = absurd (false≢true is)
prefix (a ∷ b ∷ c ∷ []) (d ∷ []) some rest is = grind (arith, nat_tests)
prefix (a ∷ b ∷ c ∷ []) (d ∷ e ∷ more) some rest is = absurd (false≢true is)
prefix (a ∷ b ∷ c ∷ d ∷ []) (e ∷ more) some rest is = absurd (false≢true is)
prefix (a ∷ b ∷ c ∷ d ∷ e ∷ text) more some rest is = absurd (false≢true is)

pub begins_begun : (text : List ℕ) → text ≢ [] → Begins text → is_begun text ≡ true
begins_begun text some (more, rest, is) = prefix text more some rest is

-- a whole sequence begins no longer one
apart : (text : List ℕ) → is_well_formed text ≡ true → is_begun text ≡ true → ⊥
apart [] whole begun = false≢true whole
apart (a ∷ []) whole begun = grind (arith, nat_tests)
apart (a ∷ b ∷ []) whole begun = grind (arith, nat_tests)
apart (a ∷ b ∷ c ∷ []) whole begun = grind (arith, nat_tests)
apart (a ∷ b ∷ c ∷ d ∷ rest) whole begun = false≢true begun

some_bytes : (before : List ℕ) (b : ℕ) → before ++ b ∷ [] ≢ []
some_bytes [] b e = cc
some_bytes (a ∷ before) b e = cc

malformed_not_more : (before : List ℕ) → malformed_by before ≢ More
malformed_not_more [] e = cc
malformed_not_more (a ∷ before) e = cc

more_exactly_of : (before text : List ℕ) → text ≢ [] → (got_by before (decoding_of text) ≡ More) ↔ Begins text
more_exactly_of before text some = ⊎_elim
    (λ (whole : is_well_formed text ≡ true).
    let is : decoding_of text ≡ Character _ = cond-true _ _ _ whole in (
      (λ more. absurd (let e : ⊥ = cc (ap (got_by before) is) in e)),
      (λ begins. absurd (apart text whole (begins_begun text some begins))),
    ))
    (λ (not_whole : is_well_formed text ≡ false). ⊎_elim
    (λ (begun : is_begun text ≡ true).
    let is : decoding_of text ≡ Unfinished = cond-false _ _ _ not_whole ∙ cond-true _ _ _ begun in
    ((λ more. begun_begins text begun), (λ begins. ap (got_by before) is)))
    (λ (not_begun : is_begun text ≡ false).
    let is : decoding_of text ≡ Malformed = cond-false _ _ _ not_whole ∙ cond-false _ _ _ not_begun in (
      (λ more. absurd (malformed_not_more before (sym (ap (got_by before) is) ∙ more))),
      (λ begins. absurd (false≢true (sym not_begun ∙ begins_begun text some begins))),
    ))
    (cases_Bool (is_begun text)))
    (cases_Bool (is_well_formed text))

pub more_exactly : (before : List ℕ) (b : ℕ) → (got_of before b ≡ More) ↔ Begins (before ++ b ∷ [])
more_exactly before b = more_exactly_of before (before ++ b ∷ []) (some_bytes before b)

unfinished_one_way : (text : List ℕ) → decoding_of text ≡ Unfinished → (text ≢ []) × Begins text
unfinished_one_way text is = ⊎_elim
    (λ (whole : is_well_formed text ≡ true).
    let e : decoding_of text ≡ Character (code_of text) = cond-true _ _ _ whole in
    absurd (let wrong : ⊥ = cc in wrong))
    (λ (not_whole : is_well_formed text ≡ false). ⊎_elim
    (λ (begun : is_begun text ≡ true). (not-empty text begun, begun_begins text begun))
    (λ (not_begun : is_begun text ≡ false).
    let e : decoding_of text ≡ Malformed = cond-false _ _ _ not_whole ∙ cond-false _ _ _ not_begun in
    absurd (let wrong : ⊥ = cc in wrong))
    (cases_Bool (is_begun text)))
    (cases_Bool (is_well_formed text))
  where
    not-empty : (t : List ℕ) → is_begun t ≡ true → t ≢ []
    not-empty [] begun e = false≢true begun
    not-empty (a ∷ t) begun e = cc

unfinished_other_way : (text : List ℕ) → (text ≢ []) × Begins text → decoding_of text ≡ Unfinished
unfinished_other_way text (some, begins) =
    let begun : is_begun text ≡ true = begins_begun text some begins in
    cond-false _ _ _ (false_from_ne_true _ (λ whole. apart text whole begun)) ∙ cond-true _ _ _ begun

pub unfinished_begins : UnfinishedBegins
unfinished_begins text = (unfinished_one_way text, unfinished_other_way text)
