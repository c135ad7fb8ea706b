-- Texts cut into characters.
use Rattle.std.proofs.Common.{◌≡◌, ⊎_elim, ℕ, zero, suc, ◌-◌, ◌<◌, ◌≤◌, Bool, true, false, cond, ◌&&◌, ◌||◌, List, [], ◌∷◌, ◌++◌, length, take, drop, refl, sym, ap, ◌∙◌, subst, arith, append_assoc}
use Rattle.std.proofs.Math.Seq.{drop-length}
use Rattle.std.proofs.lemmas.Bool.{and_from, and_left, and_parts, and_right, cases_Bool, cond-false, cond-true, false≢true, or_cases, or_from, or_right}
use Rattle.std.proofs.lemmas.Bool.Decides.{nat_tests}
use Rattle.std.proofs.lemmas.List.{append-nil, drop-append-le, length-drop, length-take}
use Rattle.std.specs.List.{concat}
use Rattle.vt_chars.specs.Characters.{AsciiCuts, ByteMore, CharactersAreAll, characters, characters_past, first_of, is_part, with_byte}
use Rattle.vt_chars.specs.Utf8.{is_begun, is_second, is_tail, is_well_formed, within}

-- what is before the last byte of a part begins one
before_last : (a : ℕ) (text : List ℕ) (b : ℕ) → is_part ((a ∷ text) ++ b ∷ []) ≡ true
    → is_begun (a ∷ text) ≡ true
before_last a [] b is = grind (arith, nat_tests)
before_last a (c ∷ []) b is = grind (arith, nat_tests)
before_last a (c ∷ d ∷ []) b is = grind (arith, nat_tests)
before_last a (c ∷ d ∷ e ∷ []) b is = absurd (false≢true is)
before_last a (c ∷ d ∷ e ∷ f ∷ text) b is = absurd (false≢true is)

-- a text with a byte more that is a part is its own first character, and so was the text
joined : (a : ℕ) (text : List ℕ) (b : ℕ) → is_part ((a ∷ text) ++ b ∷ []) ≡ true
    → (first_of ((a ∷ text) ++ b ∷ []) ≡ (a ∷ text) ++ b ∷ []) × (first_of (a ∷ text) ≡ a ∷ text)
joined a [] b is =
    (cond-true _ _ _ is, cond-true _ _ _ (or_right _ _ (before_last a [] b is)))
joined a (c ∷ []) b is =
    (cond-true _ _ _ is, cond-true _ _ _ (or_right _ _ (before_last a (c ∷ []) b is)))
joined a (c ∷ d ∷ []) b is =
    (cond-true _ _ _ is, cond-true _ _ _ (or_right _ _ (before_last a (c ∷ d ∷ []) b is)))
joined a (c ∷ d ∷ e ∷ []) b is = absurd (false≢true is)
joined a (c ∷ d ∷ e ∷ f ∷ text) b is = absurd (false≢true is)

-- choices between texts, where the longest other a part
module _ {A : Type 0} where
  past-one : (p q : Bool) (x y : A) → p ≡ false
      → cond p x (cond p x (cond p x y)) ≡ cond q y (cond q y (cond q y y))
  past-one false true x y is = refl
  past-one false false x y is = refl
  past-one true q x y is = absurd (false≢true (sym is))

  past-two : (p q : Bool) (x y z : A) → p ≡ false
      → cond p x (cond p x (cond q y z)) ≡ cond q y (cond q y (cond q y z))
  past-two false true x y z is = refl
  past-two false false x y z is = refl
  past-two true q x y z is = absurd (false≢true (sym is))

  past-three : (p q r : Bool) (x y z t : A) → p ≡ false
      → cond p x (cond q y (cond r z t)) ≡ cond q y (cond q y (cond r z t))
  past-three false true r x y z t is = refl
  past-three false false r x y z t is = refl
  past-three true q r x y z t is = absurd (false≢true (sym is))

-- a byte more that makes no part leaves the first character
apart : (a : ℕ) (text : List ℕ) (b : ℕ) → is_part ((a ∷ text) ++ b ∷ []) ≡ false
    → first_of ((a ∷ text) ++ b ∷ []) ≡ first_of (a ∷ text)
apart a [] b is = past-one _ (is_part (a ∷ [])) _ _ is
apart a (c ∷ []) b is = past-two _ (is_part (a ∷ c ∷ [])) _ _ _ is
apart a (c ∷ d ∷ []) b is = past-three _ (is_part (a ∷ c ∷ d ∷ [])) (is_part (a ∷ c ∷ [])) _ _ _ _ is
apart a (c ∷ d ∷ e ∷ text) b is = refl

-- the first character is a front of the text, of at least one byte
pick : (x y z : Bool) (text : List ℕ)
    → (n : ℕ) × (1 ≤ n)
    × (cond x (take 4 text) (cond y (take 3 text) (cond z (take 2 text) (take 1 text))) ≡ take n text)
pick true y z text = (4, omega arith, refl)
pick false true z text = (3, omega arith, refl)
pick false false true text = (2, omega arith, refl)
pick false false false text = (1, omega arith, refl)

front : (text : List ℕ) → (n : ℕ) × (1 ≤ n) × (first_of text ≡ take n text)
front text = pick (is_part (take 4 text)) (is_part (take 3 text)) (is_part (take 2 text)) text

taken_and_left : (n : ℕ) (text : List ℕ) → take n text ++ drop (length (take n text)) text ≡ text
taken_and_left zero text = refl
taken_and_left (suc n) [] = refl
taken_and_left (suc n) (a ∷ text) = ap (λ xs. a ∷ xs) (taken_and_left n text)

first_and_left : (text : List ℕ) → first_of text ++ drop (length (first_of text)) text ≡ text
first_and_left text =
    let f = front text in
    ap (λ c. c ++ drop (length c) text) f.2 ∙ taken_and_left f.0 text

first_some : (a : ℕ) (text : List ℕ) → 1 ≤ length (first_of (a ∷ text))
first_some a text =
    let f = front (a ∷ text) in
    omega (arith, f.1, ap length f.2, length-take f.0 (a ∷ text))

first_within : (text : List ℕ) → length (first_of text) ≤ length text
first_within text =
    let f = front text in
    omega (arith, ap length f.2, length-take f.0 text)

-- a text that a character of before goes into has the characters of what is left
past_is_drop : (n : ℕ) (text : List ℕ) → characters_past n text ≡ characters (drop n text)
past_is_drop zero text = refl
past_is_drop (suc n) [] = refl
past_is_drop (suc n) (a ∷ text) = past_is_drop n text

pub first_then_left : (a : ℕ) (text : List ℕ)
    → characters (a ∷ text)
    ≡ first_of (a ∷ text) ∷ characters (drop (length (first_of (a ∷ text))) (a ∷ text))
first_then_left a text =
    let c : List ℕ = first_of (a ∷ text) in
    let long : length c ≡ suc (length c - 1) = omega (arith, first_some a text) in
    ap (λ cs. c ∷ cs)
    (past_is_drop (length c - 1) text ∙ ap (λ n. characters (drop n (a ∷ text))) (sym long))

-- a text that is its own first character
alone : (a : ℕ) (text : List ℕ) → first_of (a ∷ text) ≡ a ∷ text → characters (a ∷ text) ≡ (a ∷ text) ∷ []
alone a text is =
    first_then_left a text
    ∙ ap (λ c. c ∷ characters (drop (length c) (a ∷ text))) is
    ∙ ap (λ left. (a ∷ text) ∷ characters left) (drop-length (a ∷ text))

one_byte : (b : ℕ) → first_of (b ∷ []) ≡ b ∷ []
one_byte b = same (is_part (b ∷ []))
  where
    same : (p : Bool) → cond p (b ∷ []) (cond p (b ∷ []) (cond p (b ∷ []) (b ∷ []))) ≡ b ∷ []
    same true = refl
    same false = refl

none_of_none : (text : List ℕ) → characters text ≡ [] → text ≡ []
none_of_none [] is = refl
none_of_none (a ∷ text) is = absurd (let wrong : ⊥ = cc (first_then_left a text) in wrong)

-- where the first character stays as it is with the byte more, the others take the byte
goes_past : (c : List ℕ) (others : List (List ℕ)) (b : ℕ)
    → (others ≡ [] → is_part (c ++ b ∷ []) ≡ false)
    → c ∷ with_byte others b ≡ with_byte (c ∷ others) b
goes_past c [] b stays = sym (cond-false _ _ _ (stays refl))
goes_past c (d ∷ others) b stays = refl

more_by : (n : ℕ) (text : List ℕ) (b : ℕ) → length text ≤ n
    → characters (text ++ b ∷ []) ≡ with_byte (characters text) b
more_by n [] b few = alone b [] (one_byte b)
more_by zero (a ∷ text) b few = absurd (omega (arith, few))
more_by (suc n) (a ∷ text) b few =
    let c : List ℕ = first_of (a ∷ text) in
    let left : List ℕ = drop (length c) (a ∷ text) in
    let whole : List ℕ = (a ∷ text) ++ b ∷ [] in
    ⊎_elim
    (λ (is : is_part whole ≡ true).
    let both = joined a text b is in
    alone a (text ++ b ∷ []) both.0
    ∙ sym (cond-true _ _ _ is)
    ∙ ap (λ cs. with_byte cs b) (sym (alone a text both.1)))
    (λ (other : is_part whole ≡ false).
    let shorter : length left ≤ n =
    omega (arith, length-drop (length c) (a ∷ text), first_some a text, few) in
    let stays : characters left ≡ [] → is_part (c ++ b ∷ []) ≡ false =
    λ none.
    ap (λ t. is_part (t ++ b ∷ []))
    (sym (append-nil c) ∙ ap (λ t. c ++ t) (sym (none_of_none left none)) ∙ first_and_left (a ∷ text))
    ∙ other in
    first_then_left a (text ++ b ∷ [])
    ∙ ap (λ d. d ∷ characters (drop (length d) whole)) (apart a text b other)
    ∙ ap (λ t. c ∷ characters t) (drop-append-le (length c) (a ∷ text) (b ∷ []) (first_within (a ∷ text)))
    ∙ ap (λ cs. c ∷ cs) (more_by n left b shorter)
    ∙ goes_past c (characters left) b stays
    ∙ ap (λ cs. with_byte cs b) (sym (first_then_left a text)))
    (cases_Bool (is_part whole))

pub byte_more : ByteMore
byte_more text b = more_by (length text) text b (omega arith)

all_by : (n : ℕ) (text : List ℕ) → length text ≤ n → concat (characters text) ≡ text
all_by n [] few = refl
all_by zero (a ∷ text) few = absurd (omega (arith, few))
all_by (suc n) (a ∷ text) few =
    let c : List ℕ = first_of (a ∷ text) in
    let left : List ℕ = drop (length c) (a ∷ text) in
    let shorter : length left ≤ n =
    omega (arith, length-drop (length c) (a ∷ text), first_some a text, few) in
    ap concat (first_then_left a text)
    ∙ ap (λ t. c ++ t) (all_by n left shorter)
    ∙ first_and_left (a ∷ text)

pub characters_are_all : CharactersAreAll
characters_are_all text = all_by (length text) text (omega arith)

-- characters of at least one byte each
abbrev Filled : List (List ℕ) → Type 0
Filled [] = Unit
Filled (c ∷ more) = (1 ≤ length c) × Filled more

filled_by : (n : ℕ) (text : List ℕ) → length text ≤ n → Filled (characters text)
filled_by n [] few = tt
filled_by zero (a ∷ text) few = absurd (omega (arith, few))
filled_by (suc n) (a ∷ text) few =
    let c : List ℕ = first_of (a ∷ text) in
    let left : List ℕ = drop (length c) (a ∷ text) in
    let shorter : length left ≤ n =
    omega (arith, length-drop (length c) (a ∷ text), first_some a text, few) in
    subst Filled (sym (first_then_left a text)) (first_some a text, filled_by n left shorter)

-- a byte below 80 goes on no character, and none goes on it
ends_apart : (a : ℕ) (text : List ℕ) (b : ℕ) → b < 0x80 → is_part ((a ∷ text) ++ b ∷ []) ≡ false
ends_apart a [] b low = grind (arith, nat_tests)
ends_apart a (c ∷ []) b low = grind (arith, nat_tests)
ends_apart a (c ∷ d ∷ []) b low = grind (arith, nat_tests)
ends_apart a (c ∷ d ∷ e ∷ []) b low = refl
ends_apart a (c ∷ d ∷ e ∷ f ∷ text) b low = refl

starts_apart : (b x : ℕ) → b < 0x80 → is_part (b ∷ x ∷ []) ≡ false
starts_apart b x low = grind (arith, nat_tests)

at_end : (cs : List (List ℕ)) (b : ℕ) → b < 0x80 → Filled cs → with_byte cs b ≡ cs ++ (b ∷ []) ∷ []
at_end [] b low filled = refl
at_end ([] ∷ []) b low filled = absurd (omega (arith, filled.0))
at_end ((a ∷ c) ∷ []) b low filled = cond-false _ _ _ (ends_apart a c b low)
at_end (c ∷ d ∷ more) b low filled = ap (λ cs. c ∷ cs) (at_end (d ∷ more) b low filled.1)

after_some : (xs : List (List ℕ)) (y : List ℕ) (ys : List (List ℕ)) (b : ℕ)
    → with_byte (xs ++ y ∷ ys) b ≡ xs ++ with_byte (y ∷ ys) b
after_some [] y ys b = refl
after_some (x ∷ []) y ys b = refl
after_some (x ∷ z ∷ xs) y ys b = ap (λ cs. x ∷ cs) (after_some (z ∷ xs) y ys b)

after_ascii : (b : ℕ) (ys : List (List ℕ)) (x : ℕ) → b < 0x80
    → with_byte ((b ∷ []) ∷ ys) x ≡ (b ∷ []) ∷ with_byte ys x
after_ascii b [] x low = cond-false _ _ _ (starts_apart b x low)
after_ascii b (y ∷ ys) x low = refl

module _ (before : List ℕ) (b : ℕ) (low : b < 0x80) where
  abbrev Cuts : List ℕ → Type 0
  Cuts after = characters (before ++ b ∷ after) ≡ characters before ++ (b ∷ []) ∷ characters after

  nothing-after : Cuts []
  nothing-after =
      byte_more before b ∙ at_end (characters before) b low (filled_by (length before) before (omega arith))

  byte-after : (after : List ℕ) (x : ℕ) → Cuts after → Cuts (after ++ x ∷ [])
  byte-after after x cuts =
      ap characters (sym (append_assoc before (b ∷ after) (x ∷ [])))
      ∙ byte_more (before ++ b ∷ after) x
      ∙ ap (λ cs. with_byte cs x) cuts
      ∙ after_some (characters before) (b ∷ []) (characters after) x
      ∙ ap (λ cs. characters before ++ cs)
      (after_ascii b (characters after) x low
      ∙ ap (λ cs. (b ∷ []) ∷ cs) (sym (byte_more after x)))

  cuts-on : (done more : List ℕ) → Cuts done → Cuts (done ++ more)
  cuts-on done [] cuts = subst Cuts (sym (append-nil done)) cuts
  cuts-on done (x ∷ more) cuts =
      subst Cuts (append_assoc done (x ∷ []) more)
      (cuts-on (done ++ x ∷ []) more (byte-after done x cuts))

pub ascii_cuts : AsciiCuts
ascii_cuts before b after low = cuts-on before b low [] after (nothing-after before b low)
