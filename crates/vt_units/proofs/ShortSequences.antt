-- A control sequence that is read number by number.
use Rattle.std.proofs.Common.{◌≡◌, ℕ, ◌==◌, ◌≤◌, ◌<◌, ◌+◌, Bool, true, false, List, [], ◌∷◌, length, take, drop, get_or, Some, refl, sym, ap, ◌∙◌, arith}
use Rattle.std.proofs.lemmas.Bool.{cond-true, cond-false, eq-eqb, eqb-true, or_left, or_right}
use Rattle.std.proofs.lemmas.Bool.Decides.{nat_tests}
use Rattle.std.proofs.lemmas.List.{drop_more, take_all}
use Rattle.vt_units.proofs.Fields.{numbers_after_all}
use Rattle.vt_units.proofs.Numbered.{longest_prefix_goes, longest_prefix_stops}
use Rattle.vt_units.specs.WholeSequence.{ends_control, numbers_ahead, numbers_end, opened_ahead}
use Rattle.vt_units.specs.ShortSequences.{Begun, Goes}
use Rattle.vt_units.specs.Bytes.{is_digit}
use Rattle.vt_units.specs.Numbers.{numbers_after, params_of, number_with_digit}
use Rattle.vt_units.specs.Reading.{after_prefix, longest_prefix}
use Rattle.vt_units.specs.Sequences.{is_parameter}
use Rattle.vt_units.specs.declared.unit.Unit.TheVariants.{Csi}

-- a number that begins with ? is none
pub stands_still : (text : List ℕ) (m j : ℕ) → Goes text 0 2 m j → 2 < length text → 2 ≤ j
    → get_or text 2 0 ≡ 0x3F → j ≡ 2
stands_still text m j goes within order mark =
    let stops : is_parameter (get_or text 2 0) ≡ false = ap is_parameter mark in
    let end = longest_prefix_stops is_parameter text 2 within stops in
    omega (arith, goes.count, ap (λ (bytes : List ℕ). length bytes) end.0)

-- a byte that is one of these isn't ?
not_mark : (b : ℕ) → ends_control b ≡ true → (b == 0x3F) ≡ false
not_mark b ends = grind (arith, nat_tests, ends)

plain_one : (text : List ℕ) (m j : ℕ) → Goes text 0 2 m j → 2 < length text → 2 ≤ j
    → ends_control (get_or text j 0) ≡ true → (get_or text 2 0 == 0x3F) ≡ false
plain_one text m j goes within order ends = by (get_or text 2 0 == 0x3F) refl
  where
    by : (test : Bool) → (get_or text 2 0 == 0x3F) ≡ test → (get_or text 2 0 == 0x3F) ≡ false
    by false is = is
    by true is =
        let still = stands_still text m j goes within order (eqb-true _ _ is) in
        not_mark (get_or text 2 0) (ap (λ (k : ℕ). ends_control (get_or text k 0)) (sym still) ∙ ends)

plain_two : (text : List ℕ) (m j : ℕ) → Goes text 0 2 m j → 2 < length text → 2 ≤ j
    → get_or text j 0 ≡ 0x3B → (get_or text 2 0 == 0x3F) ≡ false
plain_two text m j goes within order parts = by (get_or text 2 0 == 0x3F) refl
  where
    by : (test : Bool) → (get_or text 2 0 == 0x3F) ≡ test → (get_or text 2 0 == 0x3F) ≡ false
    by false is = is
    by true is =
        let still = stands_still text m j goes within order (eqb-true _ _ is) in
        ap (λ (k : ℕ). get_or text k 0 == 0x3F) (sym still) ∙ ap (λ (b : ℕ). b == 0x3F) parts

pub goes_none : (text : List ℕ) (n i : ℕ) → Goes text n i n i
goes_none text n i = record { numbers = refl; count = refl; rest = refl; digits = refl; left = refl }

-- a digit more
pub goes_on : (text : List ℕ) (n i m j more : ℕ) → Goes text n i m j → j < length text
    → is_digit (get_or text j 0) ≡ true → more ≡ number_with_digit m (get_or text j 0) → Goes text n i more (j + 1)
goes_on text n i m j more before within digit is =
    let b : ℕ = get_or text j 0 in
    let left : List ℕ = longest_prefix is_parameter (drop (j + 1) text) in
    let one = longest_prefix_goes is_parameter text j within (or_left _ _ digit) in
    let other : (b == 0x3B) ≡ false = grind (arith, nat_tests, digit) in
    let next = longest_prefix_goes is_digit text j within digit in
    record {
      numbers =
          before.numbers
          ∙ ap (numbers_after m) one.0
          ∙ cond-false _ _ _ other
          ∙ ap (λ (k : ℕ). numbers_after k left) (sym is);
      count = omega (arith, before.count, ap (λ (bytes : List ℕ). length bytes) one.0);
      rest = before.rest ∙ one.1;
      digits = omega (arith, before.digits, ap (λ (bytes : List ℕ). length bytes) next.0);
      left = before.left ∙ next.1;
    }

last_stops : (b : ℕ) → ends_control b ≡ true → is_parameter b ≡ false
last_stops b ends = grind (arith, nat_tests, ends)

-- what is read from place i on, after the number n, up to place j
pub record Ends (text : List ℕ) (n i : ℕ) (numbers : List ℕ) (j : ℕ) : Type 0 where
  pub all : numbers_after n (longest_prefix is_parameter (drop i text)) ≡ numbers
  pub count : length (longest_prefix is_parameter (drop i text)) + i ≡ j
  pub rest : after_prefix is_parameter (drop i text) ≡ drop j text

-- the last number, which ends before place j
reads_last : (text : List ℕ) (n i m j : ℕ) → Goes text n i m j → j < length text
    → is_parameter (get_or text j 0) ≡ false → Ends text n i (m ∷ []) j
reads_last text n i m j goes within stops =
    let end = longest_prefix_stops is_parameter text j within stops in
    record {
      all = goes.numbers ∙ ap (numbers_after m) end.0;
      count = omega (arith, goes.count, ap (λ (bytes : List ℕ). length bytes) end.0);
      rest = goes.rest ∙ end.1;
    }

-- a number that a semicolon at place j ends
pub record Parts (text : List ℕ) (n i m j : ℕ) : Type 0 where
  pub numbers : numbers_after n (longest_prefix is_parameter (drop i text)) ≡ m ∷ numbers_after 0 (longest_prefix is_parameter (drop (j + 1) text))
  pub count : length (longest_prefix is_parameter (drop i text)) + i ≡ length (longest_prefix is_parameter (drop (j + 1) text)) + (j + 1)
  pub rest : after_prefix is_parameter (drop i text) ≡ after_prefix is_parameter (drop (j + 1) text)

pub reads_one : (text : List ℕ) (n i m j : ℕ) → Goes text n i m j → j < length text
    → get_or text j 0 ≡ 0x3B → Parts text n i m j
reads_one text n i m j goes within parts =
    let is : (get_or text j 0 == 0x3B) ≡ true = eq-eqb _ _ parts in
    let one = longest_prefix_goes is_parameter text j within (or_right _ _ is) in
    record {
      numbers = goes.numbers ∙ ap (numbers_after m) one.0 ∙ cond-true _ _ _ is;
      count = omega (arith, goes.count, ap (λ (bytes : List ℕ). length bytes) one.0);
      rest = goes.rest ∙ one.1;
    }

-- a number before a semicolon at place j, and those after it
reads_more : (text : List ℕ) (n i m j : ℕ) (numbers : List ℕ) (e : ℕ) → Goes text n i m j → j < length text
    → get_or text j 0 ≡ 0x3B → Ends text 0 (j + 1) numbers e → Ends text n i (m ∷ numbers) e
reads_more text n i m j numbers e goes within parts ends =
    let one = reads_one text n i m j goes within parts in
    record {
      all = one.numbers ∙ ap (λ (ns : List ℕ). m ∷ ns) ends.all;
      count = omega (arith, one.count, ends.count);
      rest = one.rest ∙ ends.rest;
    }

-- behind ESC [
numbers_is : (rest text numbers : List ℕ) (j : ℕ) → j < length text → ends_control (get_or text j 0) ≡ true
    → length numbers ≤ 16 → numbers_after 0 (longest_prefix is_parameter rest) ≡ numbers
    → length (longest_prefix is_parameter rest) + 2 ≡ j → after_prefix is_parameter rest ≡ drop j text
    → numbers_ahead false 2 rest ≡ Some (record { unit = Csi false numbers (get_or text j 0); count = j + 1 })
numbers_is rest text numbers j within ends few all count left =
    let kept : List ℕ = longest_prefix is_parameter rest in
    let last : ℕ = get_or text j 0 in
    let params : params_of kept ≡ numbers =
    sym (numbers_after_all kept) ∙ ap (take 16) all ∙ take_all 16 numbers few in
    let bytes : 2 + length kept + 1 ≡ j + 1 = omega (arith, count) in
    ap (numbers_end false 2 kept) (left ∙ drop_more text j 0 within)
    ∙ cond-true _ _ _ ends
    ∙ (λ i. Some (record { unit = Csi false (params i) last; count = bytes i }))

brief_is : (text numbers : List ℕ) (j : ℕ) → Begun text → (get_or text 2 0 == 0x3F) ≡ false → j < length text
    → ends_control (get_or text j 0) ≡ true
    → length numbers ≤ 16 → Ends text 0 2 numbers j
    → opened_ahead text ≡ Some (record { unit = Csi false numbers (get_or text j 0); count = j + 1 })
brief_is [] numbers j begun plain within ends few read = absurd (omega (arith, begun.long))
brief_is (a ∷ []) numbers j begun plain within ends few read = absurd (omega (arith, begun.long))
brief_is (a ∷ b ∷ []) numbers j begun plain within ends few read = absurd (omega (arith, begun.long))
brief_is (a ∷ b ∷ c ∷ more) numbers j begun plain within ends few read =
    cond-true _ _ _ (eq-eqb _ _ begun.escape)
    ∙ cond-true _ _ _ (eq-eqb _ _ begun.bracket)
    ∙ cond-false _ _ _ plain
    ∙ numbers_is (c ∷ more) (a ∷ b ∷ c ∷ more) numbers j within ends few read.all read.count read.rest

-- one number and its end
pub one_is : (text : List ℕ) (first j : ℕ) → Begun text → Goes text 0 2 first j → 2 ≤ j → j < length text
    → ends_control (get_or text j 0) ≡ true
    → opened_ahead text ≡ Some (record { unit = Csi false (first ∷ []) (get_or text j 0); count = j + 1 })
one_is text first j begun goes order within ends =
    brief_is text (first ∷ []) j begun (plain_one text first j goes (omega (arith, begun.long)) order ends)
    within ends (omega arith)
    (reads_last text 0 2 first j goes within (last_stops (get_or text j 0) ends))

-- two numbers and their end
pub two_is : (text : List ℕ) (first second j e : ℕ) → Begun text → Goes text 0 2 first j → 2 ≤ j
    → Goes text 0 (j + 1) second e → j < length text → get_or text j 0 ≡ 0x3B → e < length text
    → ends_control (get_or text e 0) ≡ true
    → opened_ahead text
    ≡ Some (record { unit = Csi false (first ∷ second ∷ []) (get_or text e 0); count = e + 1 })
two_is text first second j e begun goes order more within parts end ends =
    brief_is text (first ∷ second ∷ []) e begun (plain_two text first j goes (omega (arith, begun.long)) order parts)
    end ends (omega arith)
    (reads_more text 0 2 first j (second ∷ []) e goes within parts
    (reads_last text 0 (j + 1) second e more end (last_stops (get_or text e 0) ends)))

-- three numbers and their end
pub three_are : (text : List ℕ) (first second third j k e : ℕ) → Begun text → Goes text 0 2 first j → 2 ≤ j
    → Goes text 0 (j + 1) second k → Goes text 0 (k + 1) third e
    → j < length text → get_or text j 0 ≡ 0x3B → k < length text → get_or text k 0 ≡ 0x3B
    → e < length text → get_or text e 0 ≡ 0x6D
    → opened_ahead text ≡ Some (record { unit = Csi false (first ∷ second ∷ third ∷ []) 0x6D; count = e + 1 })
three_are text first second third j k e begun goes order more most within parts mid apart end last =
    let ends : ends_control (get_or text e 0) ≡ true = ap ends_control last in
    brief_is text (first ∷ second ∷ third ∷ []) e begun
    (plain_two text first j goes (omega (arith, begun.long)) order parts) end ends (omega arith)
    (reads_more text 0 2 first j (second ∷ third ∷ []) e goes within parts
    (reads_more text 0 (j + 1) second k (third ∷ []) e more mid apart
    (reads_last text 0 (k + 1) third e most end (last_stops (get_or text e 0) ends))))
    ∙ ap (λ (b : ℕ). Some (record { unit = Csi false (first ∷ second ∷ third ∷ []) b; count = e + 1 })) last

-- five numbers and their end
pub five_are : (text : List ℕ) (first second third fourth fifth j k l m e : ℕ) → Begun text
    → Goes text 0 2 first j → 2 ≤ j
    → Goes text 0 (j + 1) second k → Goes text 0 (k + 1) third l → Goes text 0 (l + 1) fourth m
    → Goes text 0 (m + 1) fifth e
    → j < length text → get_or text j 0 ≡ 0x3B → k < length text → get_or text k 0 ≡ 0x3B
    → l < length text → get_or text l 0 ≡ 0x3B → m < length text → get_or text m 0 ≡ 0x3B
    → e < length text → get_or text e 0 ≡ 0x6D
    → opened_ahead text
    ≡ Some (record { unit = Csi false (first ∷ second ∷ third ∷ fourth ∷ fifth ∷ []) 0x6D; count = e + 1 })
five_are text first second third fourth fifth j k l m e begun goes order two three four five j_in j_parts k_in k_parts l_in l_parts m_in m_parts e_in last =
    let ends : ends_control (get_or text e 0) ≡ true = ap ends_control last in
    brief_is text (first ∷ second ∷ third ∷ fourth ∷ fifth ∷ []) e begun
    (plain_two text first j goes (omega (arith, begun.long)) order j_parts) e_in ends (omega arith)
    (reads_more text 0 2 first j (second ∷ third ∷ fourth ∷ fifth ∷ []) e goes j_in j_parts
    (reads_more text 0 (j + 1) second k (third ∷ fourth ∷ fifth ∷ []) e two k_in k_parts
    (reads_more text 0 (k + 1) third l (fourth ∷ fifth ∷ []) e three l_in l_parts
    (reads_more text 0 (l + 1) fourth m (fifth ∷ []) e four m_in m_parts
    (reads_last text 0 (m + 1) fifth e five e_in (last_stops (get_or text e 0) ends))))))
    ∙ ap (λ (b : ℕ). Some (record { unit = Csi false (first ∷ second ∷ third ∷ fourth ∷ fifth ∷ []) b; count = e + 1 })) last
