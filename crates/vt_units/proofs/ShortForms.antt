-- The conditions for a short sequence at the start of a text, by its numbers as they are read.
use Rattle.std.proofs.Common.{◌≡◌, ◌≢◌, ℕ, ◌==◌, ◌≤◌, ◌<◌, ◌+◌, Bool, true, false, ◌&&◌, List, length, drop, get_or, refl, sym, ap, ◌∙◌, arith}
use Rattle.std.specs.Prelude.{nat_le, slice_index}
use Rattle.std.proofs.lemmas.Bool.{cond-false, cond-true, eq-eqb, le-leb, ne_eqb}
use Rattle.std.proofs.lemmas.Bool.Decides.{nat_tests}
use Rattle.std.proofs.lemmas.List.{drop_more}
use Rattle.vt_units.proofs.Numbered.{longest_prefix_goes, longest_prefix_stops}
use Rattle.vt_units.specs.ShortForms.{begins_short, begins_colour, begins_longer, ends_short, ends_colour, ends_numbers, ends_sgr, is_short_end, is_number_before, is_number_next}
use Rattle.vt_units.specs.ShortSequences.{Begun, Goes}
use Rattle.vt_units.specs.Bytes.{is_digit}
use Rattle.vt_units.specs.Reading.{after_prefix, longest_prefix}

-- a number that ends before place j
number_ends : (holds : List ℕ → Bool) (text : List ℕ) (n i m j : ℕ) → Goes text n i m j → j ≤ i + 3
    → j < length text → is_digit (get_or text j 0) ≡ false
    → is_number_before holds (drop i text) ≡ holds (drop j text)
number_ends holds text n i m j goes few within stops =
    let end = longest_prefix_stops is_digit text j within stops in
    let short : length (longest_prefix is_digit (drop i text)) ≤ 3 =
    omega (arith, goes.digits, ap (λ (bytes : List ℕ). length bytes) end.0) in
    ap (λ (test : Bool). test && holds (after_prefix is_digit (drop i text))) (le-leb _ 3 short)
    ∙ ap holds (goes.left ∙ end.1)

-- a fourth digit
number_long : (holds : List ℕ → Bool) (text : List ℕ) (n i m j : ℕ) → Goes text n i m j → j ≡ i + 3
    → j < length text → is_digit (get_or text j 0) ≡ true
    → is_number_before holds (drop i text) ≡ false
number_long holds text n i m j goes is within digit =
    let more = longest_prefix_goes is_digit text j within digit in
    let long : 3 < length (longest_prefix is_digit (drop i text)) =
    omega (arith, goes.digits, is, ap (λ (bytes : List ℕ). length bytes) more.0) in
    let over : nat_le (length (longest_prefix is_digit (drop i text))) 3 ≡ false = grind (arith, nat_tests, long) in
    ap (λ (test : Bool). test && holds (after_prefix is_digit (drop i text))) over

digit_ends_none : (b : ℕ) → is_digit b ≡ true → is_short_end b ≡ false
digit_ends_none b digit = grind (arith, nat_tests, digit)

-- by what stands at place j: this is true of the text from there on where the byte there is an end
number_exact : (holds : List ℕ → Bool) (text : List ℕ) (n i m j : ℕ) → Goes text n i m j → j ≤ i + 3
    → j < length text → (is_digit (get_or text j 0) ≡ true → j ≡ i + 3)
    → holds (drop j text) ≡ is_short_end (get_or text j 0)
    → is_number_before holds (drop i text) ≡ is_short_end (get_or text j 0)
number_exact holds text n i m j goes few within stops there = by (is_digit (get_or text j 0)) refl
  where
    by : (test : Bool) → is_digit (get_or text j 0) ≡ test
        → is_number_before holds (drop i text) ≡ is_short_end (get_or text j 0)
    by true digit =
        number_long holds text n i m j goes (stops digit) within digit
        ∙ sym (digit_ends_none (get_or text j 0) digit)
    by false other = number_ends holds text n i m j goes few within other ∙ there

begun_exact : (text : List ℕ) (b : ℕ) → Begun text
    → is_number_before ends_numbers (drop 2 text) ≡ is_short_end b → begins_short text ≡ is_short_end b
begun_exact text b begun is =
    let numbers : Bool = is_number_before ends_numbers (drop 2 text) in
    let opened : Bool = slice_index text 1 == 0x5B && numbers in
    let escaped : Bool = slice_index text 0 == 0x1B && opened in
    ap (λ (test : Bool). test && escaped) (le-leb 10 (length text) begun.long)
    ∙ ap (λ (test : Bool). test && opened) (eq-eqb (slice_index text 0) 0x1B begun.escape)
    ∙ ap (λ (test : Bool). test && numbers) (eq-eqb (slice_index text 1) 0x5B begun.bracket)
    ∙ is

pub one_exact : (text : List ℕ) (first j : ℕ) → Begun text → Goes text 0 2 first j → j ≤ 5 → j < length text
    → (is_digit (get_or text j 0) ≡ true → j ≡ 5) → (get_or text j 0 == 0x3B) ≡ false
    → begins_short text ≡ is_short_end (get_or text j 0)
one_exact text first j begun goes few within stops last =
    let there : ends_numbers (drop j text) ≡ is_short_end (get_or text j 0) =
    ap ends_numbers (drop_more text j 0 within) ∙ cond-false _ _ _ last in
    begun_exact text (get_or text j 0) begun
    (number_exact ends_numbers text 0 2 first j goes few within stops there)

pub two_exact : (text : List ℕ) (first second j e : ℕ) → Begun text → Goes text 0 2 first j → j ≤ 5
    → Goes text 0 (j + 1) second e → e ≤ j + 4 → j < length text → get_or text j 0 ≡ 0x3B → e < length text
    → (is_digit (get_or text e 0) ≡ true → e ≡ j + 4)
    → begins_short text ≡ is_short_end (get_or text e 0)
two_exact text first second j e begun goes few more long within parts end stops =
    let b : ℕ = get_or text e 0 in
    let last : ends_short (drop e text) ≡ is_short_end b = ap ends_short (drop_more text e 0 end) in
    let numbered : is_number_before ends_short (drop (j + 1) text) ≡ is_short_end b =
    number_exact ends_short text 0 (j + 1) second e more (omega (arith, long)) end
    (λ digit. omega (arith, stops digit)) last in
    let there : ends_numbers (drop j text) ≡ is_short_end b =
    ap ends_numbers (drop_more text j 0 within) ∙ cond-true _ _ _ (eq-eqb _ _ parts) ∙ numbered in
    let other : is_digit (get_or text j 0) ≡ false = ap is_digit parts in
    begun_exact text b begun
    (number_ends ends_numbers text 0 2 first j goes few within other ∙ there)

-- the same, whatever is asked of what follows, where a digit isn't it
number_any : (holds : List ℕ → Bool) (text : List ℕ) (n i m j : ℕ) (r : Bool) → Goes text n i m j → j ≤ i + 3
    → j < length text → (is_digit (get_or text j 0) ≡ true → j ≡ i + 3)
    → (is_digit (get_or text j 0) ≡ true → r ≡ false)
    → holds (drop j text) ≡ r → is_number_before holds (drop i text) ≡ r
number_any holds text n i m j r goes few within stops digits there = by (is_digit (get_or text j 0)) refl
  where
    by : (test : Bool) → is_digit (get_or text j 0) ≡ test → is_number_before holds (drop i text) ≡ r
    by true digit = number_long holds text n i m j goes (stops digit) within digit ∙ sym (digits digit)
    by false other = number_ends holds text n i m j goes few within other ∙ there

digit_parts_none : (b : ℕ) (more : Bool) → is_digit b ≡ true → (b == 0x3B && more) ≡ false
digit_parts_none b more digit =
    let other : (b == 0x3B) ≡ false = grind (arith, nat_tests, digit) in ap (λ (test : Bool). test && more) other

digit_sgr_none : (b : ℕ) → is_digit b ≡ true → (b == 0x6D) ≡ false
digit_sgr_none b digit = grind (arith, nat_tests, digit)

-- a number and a semicolon at place j
pub number_parts : (holds : List ℕ → Bool) (text : List ℕ) (m i j : ℕ) → Goes text 0 i m j → j ≤ i + 3
    → j < length text → (is_digit (get_or text j 0) ≡ true → j ≡ i + 3)
    → is_number_before (is_number_next holds) (drop i text)
    ≡ (get_or text j 0 == 0x3B && is_number_before holds (drop (j + 1) text))
number_parts holds text m i j goes few within stops =
    number_any (is_number_next holds) text 0 i m j _ goes few within stops
    (digit_parts_none (get_or text j 0) (is_number_before holds (drop (j + 1) text)))
    (ap (is_number_next holds) (drop_more text j 0 within))

-- the last number, and the end of SGR at place j
pub number_last : (text : List ℕ) (m i j : ℕ) → Goes text 0 i m j → j ≤ i + 3
    → j < length text → (is_digit (get_or text j 0) ≡ true → j ≡ i + 3)
    → is_number_before ends_sgr (drop i text) ≡ (get_or text j 0 == 0x6D)
number_last text m i j goes few within stops =
    number_any ends_sgr text 0 i m j _ goes few within stops (digit_sgr_none (get_or text j 0))
    (ap ends_sgr (drop_more text j 0 within))

colour_exact : (text : List ℕ) (r : Bool) → 19 ≤ length text → begins_colour text ≡ true
    → ends_colour (slice_index text 5) (drop 7 text) ≡ r → begins_longer text ≡ r
colour_exact text r long colour ends =
    let numbers : Bool = ends_colour (slice_index text 5) (drop 7 text) in
    ap (λ (test : Bool). test && (begins_colour text && numbers)) (le-leb 19 (length text) long)
    ∙ ap (λ (test : Bool). test && numbers) colour
    ∙ ends

pub and_second : (a b : Bool) → a ≡ true → (a && b) ≡ b
and_second a b is = ap (λ (test : Bool). test && b) is

-- three numbers: the last one ends before place e
pub three_exact : (text : List ℕ) (third e : ℕ) → 19 ≤ length text → begins_colour text ≡ true
    → slice_index text 5 ≡ 0x35 → Goes text 0 7 third e → e ≤ 10 → (is_digit (get_or text e 0) ≡ true → e ≡ 10)
    → begins_longer text ≡ (get_or text e 0 == 0x6D)
three_exact text third e long colour way goes few stops =
    colour_exact text _ long colour
    (cond-true _ _ _ (eq-eqb _ _ way)
    ∙ number_last text third 7 e goes few (omega (arith, long, few)) stops)

-- five numbers: the third one ends before place e
pub five_exact : (text : List ℕ) (third e : ℕ) → 19 ≤ length text → begins_colour text ≡ true
    → slice_index text 5 ≢ 0x35 → Goes text 0 7 third e → e ≤ 10 → (is_digit (get_or text e 0) ≡ true → e ≡ 10)
    → begins_longer text ≡ (get_or text e 0 == 0x3B && is_number_before (is_number_next ends_sgr) (drop (e + 1) text))
five_exact text third e long colour way goes few stops =
    colour_exact text _ long colour
    (cond-false _ _ _ (ne_eqb (slice_index text 5) 0x35 way)
    ∙ number_parts (is_number_next ends_sgr) text third 7 e goes few (omega (arith, long, few)) stops)
