-- Control sequences of numbers below 256, as they are read.
use Rattle.std.proofs.Common.{◌≡◌, ℕ, zero, suc, ◌+◌, ◌*◌, ◌<◌, ◌≤◌, ◌==◌, ◌&&◌, ◌||◌, nat_le, Bool, true, false, List, [], ◌∷◌, ◌++◌, length, map, take, Some, refl, sym, ap, ◌∙◌, append_assoc, append-nil, arith}
use Rattle.std.specs.Fmt.{decimal, digits}
use Rattle.std.specs.List.{list_all, range_with_len}
use Rattle.std.proofs.lemmas.Bool.{and_parts, and_from, cond-true, cond-false, eqb-true, leb-true}
use Rattle.std.proofs.lemmas.Bool.Decides.{nat_tests}
use Rattle.std.proofs.lemmas.List.{length-append, take_all}
use Rattle.std.proofs.lemmas.List.Folds.{list_all-append}
use Rattle.vt_redraw.proofs.Does.{Does, acts}
use Rattle.vt_redraw.specs.Sequences.{more_numbers, sequence}
use Rattle.vt_canvas.specs.Effect.{control_sequence}
use Rattle.vt_canvas.specs.Saying.{without_out}
use Rattle.vt_canvas.specs.Screen.{Screen}
use Rattle.vt_units.specs.WholeSequence.{control_ahead, ends_control, numbers_ahead, numbers_end, opened_ahead, sequence_ahead}
use Rattle.vt_units.specs.Bytes.{is_digit}
use Rattle.vt_units.specs.Laws.{SequencesAreUnits}
use Rattle.vt_units.specs.Numbers.{Fields, fields_of, number_of, params_of}
use Rattle.vt_units.specs.Reading.{after_prefix, longest_prefix}
use Rattle.vt_units.specs.Sequences.{is_parameter}
use Rattle.vt_units.specs.declared.unit.Unit.TheVariants.{Csi}

-- what is computed of each number below a bound holds of each
pub each_holds : (p : ℕ → Bool) (n from : ℕ) → list_all p (range_with_len from n) ≡ true → (i : ℕ) → i < n → p (from + i) ≡ true
each_holds p zero from all i h = absurd (omega (arith, h))
each_holds p (suc n) from all zero h =
    ap p (let e : from + 0 ≡ from = omega arith in e) ∙ (and_parts (p from) (list_all p (range_with_len (from + 1) n)) all).0
each_holds p (suc n) from all (suc i) h =
    ap p (let e : from + suc i ≡ from + 1 + i = omega arith in e)
    ∙ each_holds p n (from + 1) (and_parts (p from) (list_all p (range_with_len (from + 1) n)) all).1 i (omega (arith, h))

pub below_holds : (p : ℕ → Bool) (n : ℕ) → list_all p (range_with_len 0 n) ≡ true → (i : ℕ) → i < n → p i ≡ true
below_holds p n all i h = ap p (let e : i ≡ 0 + i = omega arith in e) ∙ each_holds p n 0 all i h

-- the digits of a number below 256: one to three of them, which are read as it
spells : ℕ → Bool
spells n =
    list_all is_digit (decimal n)
    && (nat_le 1 (length (decimal n))
    && (nat_le (length (decimal n)) 3
    && number_of (decimal n) == n))

all_spell : list_all spells (range_with_len 0 256) ≡ true
unfolding spells digits
all_spell = refl

pub record IsSpelt (n : ℕ) : Type 0 where
  pub digits : list_all is_digit (decimal n) ≡ true
  pub some : 1 ≤ length (decimal n)
  pub few : length (decimal n) ≤ 3
  pub number : number_of (decimal n) ≡ n

spelt : (n : ℕ) → n < 256 → IsSpelt n
unfolding spells
spelt n h =
    let all = and_parts (list_all is_digit (decimal n)) (nat_le 1 (length (decimal n)) && (nat_le (length (decimal n)) 3 && number_of (decimal n) == n)) (below_holds spells 256 all_spell n h) in
    let more = and_parts (nat_le 1 (length (decimal n))) (nat_le (length (decimal n)) 3 && number_of (decimal n) == n) all.1 in
    let last = and_parts (nat_le (length (decimal n)) 3) (number_of (decimal n) == n) more.1 in
    record {
      digits = all.0;
      some = leb-true 1 (length (decimal n)) more.0;
      few = leb-true (length (decimal n)) 3 last.0;
      number = eqb-true (number_of (decimal n)) n last.1;
    }

-- numbers below 256
abbrev pub AreSmall : List ℕ → Type 0
AreSmall [] = Unit {0}
AreSmall (n ∷ ns) = (n < 256) × AreSmall ns

no_semicolon : (d : ℕ) → is_digit d ≡ true → (d == 0x3B) ≡ false
no_semicolon d is = grind (arith, nat_tests, is)

no_question : (d : ℕ) → is_digit d ≡ true → (d == 0x3F) ≡ false
no_question d is = grind (arith, nat_tests, is)

fields_first : (ds rest : List ℕ) → list_all is_digit ds ≡ true
    → fields_of (ds ++ 0x3B ∷ rest)
    ≡ record { first = ds; others = (fields_of rest).first ∷ (fields_of rest).others }
fields_first [] rest all = refl
fields_first (d ∷ ds) rest all =
    let parts = and_parts (is_digit d) (list_all is_digit ds) all in
    cond-false (d == 0x3B) _ _ (no_semicolon d parts.0)
    ∙ ap (λ (f : Fields). record { first = d ∷ f.first; others = f.others }) (fields_first ds rest parts.1)

fields_last : (ds : List ℕ) → list_all is_digit ds ≡ true → fields_of ds ≡ record { first = ds; others = [] }
fields_last [] all = refl
fields_last (d ∷ ds) all =
    let parts = and_parts (is_digit d) (list_all is_digit ds) all in
    cond-false (d == 0x3B) _ _ (no_semicolon d parts.0)
    ∙ ap (λ (f : Fields). record { first = d ∷ f.first; others = f.others }) (fields_last ds parts.1)

abbrev body : ℕ → List ℕ → List ℕ
body n ns = decimal n ++ more_numbers ns

abbrev all_numbers : Fields → List ℕ
all_numbers f = map number_of (f.first ∷ f.others)

numbers_are : (n : ℕ) (ns : List ℕ) → n < 256 → AreSmall ns → all_numbers (fields_of (body n ns)) ≡ n ∷ ns
numbers_are n [] h all =
    let is = spelt n h in
    ap (λ (text : List ℕ). all_numbers (fields_of text)) (append-nil (decimal n))
    ∙ ap all_numbers (fields_last (decimal n) is.digits)
    ∙ ap (λ (k : ℕ). k ∷ []) is.number
numbers_are n (k ∷ ns) h all =
    let is = spelt n h in
    let rest : Fields = fields_of (body k ns) in
    ap all_numbers (fields_first (decimal n) (body k ns) is.digits)
    ∙ ap (λ (j : ℕ). j ∷ all_numbers rest) is.number
    ∙ ap (λ (js : List ℕ). n ∷ js) (numbers_are k ns all.0 all.1)

digits_parameters : (ds : List ℕ) → list_all is_digit ds ≡ true → list_all is_parameter ds ≡ true
digits_parameters [] all = refl
digits_parameters (d ∷ ds) all =
    let parts = and_parts (is_digit d) (list_all is_digit ds) all in
    and_from (is_parameter d) (list_all is_parameter ds)
    (ap (λ (t : Bool). t || d == 0x3B) parts.0) (digits_parameters ds parts.1)

more_parameters : (ns : List ℕ) → AreSmall ns → list_all is_parameter (more_numbers ns) ≡ true
more_parameters [] all = refl
more_parameters (n ∷ ns) all =
    list_all-append is_parameter (decimal n) (more_numbers ns)
    ∙ and_from _ _ (digits_parameters (decimal n) (spelt n all.0).digits) (more_parameters ns all.1)

body_parameters : (n : ℕ) (ns : List ℕ) → n < 256 → AreSmall ns → list_all is_parameter (body n ns) ≡ true
body_parameters n ns h all =
    list_all-append is_parameter (decimal n) (more_numbers ns)
    ∙ and_from _ _ (digits_parameters (decimal n) (spelt n h).digits) (more_parameters ns all)

more_short : (ns : List ℕ) → AreSmall ns → length (more_numbers ns) ≤ 4 * length ns
more_short [] all = omega arith
more_short (n ∷ ns) all =
    omega (arith, length-append (decimal n) (more_numbers ns), (spelt n all.0).few, more_short ns all.1)

longest_prefix_all : (p : ℕ → Bool) (xs : List ℕ) (y : ℕ) → list_all p xs ≡ true → p y ≡ false → longest_prefix p (xs ++ y ∷ []) ≡ xs
longest_prefix_all p [] y all none = cond-false (p y) _ _ none
longest_prefix_all p (x ∷ xs) y all none =
    let parts = and_parts (p x) (list_all p xs) all in
    cond-true (p x) _ _ parts.0 ∙ ap (λ (zs : List ℕ). x ∷ zs) (longest_prefix_all p xs y parts.1 none)

after_prefix_all : (p : ℕ → Bool) (xs : List ℕ) (y : ℕ) → list_all p xs ≡ true → p y ≡ false → after_prefix p (xs ++ y ∷ []) ≡ y ∷ []
after_prefix_all p [] y all none = cond-false (p y) _ _ none
after_prefix_all p (x ∷ xs) y all none =
    let parts = and_parts (p x) (list_all p xs) all in
    cond-true (p x) _ _ parts.0 ∙ after_prefix_all p xs y parts.1 none

begins : (ds more : List ℕ) → list_all is_digit ds ≡ true → 1 ≤ length ds
    → control_ahead (ds ++ more) ≡ numbers_ahead false 2 (ds ++ more)
begins [] more all some = absurd (omega (arith, some))
begins (d ∷ ds) more all some =
    cond-false (d == 0x3F) _ _ (no_question d (and_parts (is_digit d) (list_all is_digit ds) all).0)

-- the sequence is read at once, as its numbers and its last byte
pub sequence-ahead : (n : ℕ) (ns : List ℕ) (last : ℕ) → n < 256 → AreSmall ns → length ns ≤ 15
    → ends_control last ≡ true → is_parameter last ≡ false
    → sequence_ahead (sequence n ns last)
    ≡ Some (record { unit = Csi false (n ∷ ns) last; count = length (sequence n ns last) })
sequence-ahead n ns last h all short ends other =
    let is = spelt n h in
    let text : List ℕ = body n ns ++ last ∷ [] in
    let numbers = body_parameters n ns h all in
    let many : length (body n ns) ≤ 63 =
    omega (arith, length-append (decimal n) (more_numbers ns), is.few, more_short ns all, short) in
    let len : length text ≡ length (body n ns) + 1 = length-append (body n ns) (last ∷ []) in
    let params : params_of (body n ns) ≡ n ∷ ns =
    ap (take 16) (numbers_are n ns h all) ∙ take_all 16 (n ∷ ns) (omega (arith, short)) in
    ap opened_ahead (take_all 256 (sequence n ns last) (omega (arith, many, len)))
    ∙ ap control_ahead (append_assoc (decimal n) (more_numbers ns) (last ∷ []))
    ∙ begins (decimal n) (more_numbers ns ++ last ∷ []) is.digits is.some
    ∙ ap (numbers_ahead false 2) (sym (append_assoc (decimal n) (more_numbers ns) (last ∷ [])))
    ∙ (λ i. numbers_end false 2 (longest_prefix_all is_parameter (body n ns) last numbers other i) (after_prefix_all is_parameter (body n ns) last numbers other i))
    ∙ cond-true (ends_control last) _ _ ends
    ∙ (λ i. Some (record { unit = Csi false (params i) last; count = (let e : 2 + length (body n ns) + 1 ≡ length (sequence n ns last) = omega (arith, len) in e) i }))

-- it does what the effect table has for it
pub sequence_does : SequencesAreUnits → (n : ℕ) (ns : List ℕ) (last : ℕ) → n < 256 → AreSmall ns → length ns ≤ 15
    → ends_control last ≡ true → is_parameter last ≡ false
    → (s t : Screen) → control_sequence (n ∷ ns) last s ≡ without_out t → Does (sequence n ns last) s t
sequence_does law n ns last h all short ends other s t is =
    acts law (sequence n ns last) (Csi false (n ∷ ns) last) (sequence-ahead n ns last h all short ends other) s t is
