-- The first byte of a character determines the number of its bytes.
use Rattle.std.proofs.Common.{◌≡◌, ℕ, ◌≤◌, ◌<◌, zero, suc, ◌&&◌, List, [], ◌∷◌, length, take, get_or, Option, None, Some, IfNone, refl, sym, ap, ◌∙◌, subst, ⊎_elim, arith, length-take-le}
use Rattle.std.proofs.lemmas.Bool.{and_parts, cases_lt, false≢true}
use Rattle.std.proofs.lemmas.Bool.Decides.{nat_tests}
use Rattle.std.proofs.lemmas.List.{get_or-take}
use Rattle.vt_chars.specs.Utf8.{decoding_of, is_second, is_tail, within}
use Rattle.vt_chars.specs.declared.decoded.Decoded.TheVariants.{Character}
use Rattle.vt_units.proofs.Wholes.{well}
use Rattle.vt_units.specs.Characters.{Begins, IsHidden, NoneBegins}

-- a character of n bytes, whose first one is a
pub record Sized (a n : ℕ) : Type 0 where
  pub one : a < 0x80 → n ≡ 1
  pub two : 0x80 ≤ a → a < 0xE0 → n ≡ 2
  pub three : 0xE0 ≤ a → a < 0xF0 → n ≡ 3
  pub four : 0xF0 ≤ a → n ≡ 4

sized_one : (a : ℕ) → a ≤ 0x7F → Sized a 1
sized_one a low = grind arith

sized_two : (a : ℕ) → 0xC2 ≤ a → a ≤ 0xDF → Sized a 2
sized_two a high low = grind arith

sized_three : (a : ℕ) → 0xE0 ≤ a → a ≤ 0xEF → Sized a 3
sized_three a high low = grind arith

sized_four : (a : ℕ) → 0xF0 ≤ a → Sized a 4
sized_four a high = grind arith

well-sized : (t : List ℕ) (code : ℕ) → decoding_of t ≡ Character code → Sized (get_or t 0 0) (length t)
well-sized [] code is = absurd (false≢true (well [] code is).0)
well-sized (a ∷ []) code is =
    let formed = (well (a ∷ []) code is).0 in
    sized_one a (grind (arith, nat_tests, formed))
well-sized (a ∷ b ∷ []) code is =
    let parts = and_parts (within 0xC2 0xDF a) (is_tail b) (well (a ∷ b ∷ []) code is).0 in
    sized_two a (grind (arith, nat_tests, parts.0)) (grind (arith, nat_tests, parts.0))
well-sized (a ∷ b ∷ c ∷ []) code is =
    let parts = and_parts (within 0xE0 0xEF a && is_second a b) (is_tail c) (well (a ∷ b ∷ c ∷ []) code is).0 in
    let first = and_parts (within 0xE0 0xEF a) (is_second a b) parts.0 in
    sized_three a (grind (arith, nat_tests, first.0)) (grind (arith, nat_tests, first.0))
well-sized (a ∷ b ∷ c ∷ d ∷ []) code is =
    let parts = and_parts (within 0xF0 0xF4 a && is_second a b && is_tail c) (is_tail d) (well (a ∷ b ∷ c ∷ d ∷ []) code is).0 in
    let middle = and_parts (within 0xF0 0xF4 a && is_second a b) (is_tail c) parts.0 in
    let first = and_parts (within 0xF0 0xF4 a) (is_second a b) middle.0 in
    sized_four a (grind (arith, nat_tests, first.0))
well-sized (a ∷ b ∷ c ∷ d ∷ f ∷ more) code is = absurd (false≢true (well (a ∷ b ∷ c ∷ d ∷ f ∷ more) code is).0)

pub sized : (text : List ℕ) (code n : ℕ) → Begins text code n → Sized (get_or text 0 0) n
sized text code n is =
    let len : length (take n text) ≡ n = length-take-le n text is.within in
    subst (λ (a : ℕ). Sized a n) (get_or-take n text 0 0 is.some)
    (subst (λ (k : ℕ). Sized (get_or (take n text) 0 0) k) len (well-sized (take n text) code is.first.whole))

-- the first n bytes are no character that is shown, and a character would have n
none_begins : (text front : List ℕ) (n : ℕ) → ((code k : ℕ) → Begins text code k → k ≡ n) → take n text ≡ front
    → IsHidden (decoding_of front) → NoneBegins text
none_begins text front n size same hidden code k is =
    let here : decoding_of front ≡ Character code =
    ap decoding_of (sym same) ∙ ap (λ (j : ℕ). decoding_of (take j text)) (sym (size code k is)) ∙ is.first.whole in
    hidden code here is.first.shown

take_one : (text : List ℕ) → 1 ≤ length text → take 1 text ≡ get_or text 0 0 ∷ []
take_one [] long = absurd (omega (arith, long))
take_one (a ∷ text) long = refl

take_two : (text : List ℕ) → 2 ≤ length text → take 2 text ≡ get_or text 0 0 ∷ get_or text 1 0 ∷ []
take_two [] long = absurd (omega (arith, long))
take_two (a ∷ text) long = ap (λ (xs : List ℕ). a ∷ xs) (take_one text (omega (arith, long)))

pub take_three : (text : List ℕ) → 3 ≤ length text → take 3 text ≡ get_or text 0 0 ∷ get_or text 1 0 ∷ get_or text 2 0 ∷ []
take_three [] long = absurd (omega (arith, long))
take_three (a ∷ text) long = ap (λ (xs : List ℕ). a ∷ xs) (take_two text (omega (arith, long)))

take_four : (text : List ℕ) → 4 ≤ length text
    → take 4 text ≡ get_or text 0 0 ∷ get_or text 1 0 ∷ get_or text 2 0 ∷ get_or text 3 0 ∷ []
take_four [] long = absurd (omega (arith, long))
take_four (a ∷ text) long = ap (λ (xs : List ℕ). a ∷ xs) (take_three text (omega (arith, long)))

module _ (text : List ℕ) where
  pub hidden_one : 1 ≤ length text → get_or text 0 0 < 0x80 → IsHidden (decoding_of (get_or text 0 0 ∷ [])) → NoneBegins text
  hidden_one long low = none_begins text _ 1 (λ code k is. (sized text code k is).one low) (take_one text long)

  pub hidden_two : 2 ≤ length text → 0x80 ≤ get_or text 0 0 → get_or text 0 0 < 0xE0
      → IsHidden (decoding_of (get_or text 0 0 ∷ get_or text 1 0 ∷ [])) → NoneBegins text
  hidden_two long high low = none_begins text _ 2 (λ code k is. (sized text code k is).two high low) (take_two text long)

  pub hidden_three : 3 ≤ length text → 0xE0 ≤ get_or text 0 0 → get_or text 0 0 < 0xF0
      → IsHidden (decoding_of (get_or text 0 0 ∷ get_or text 1 0 ∷ get_or text 2 0 ∷ [])) → NoneBegins text
  hidden_three long high low = none_begins text _ 3 (λ code k is. (sized text code k is).three high low) (take_three text long)

  pub hidden_four : 4 ≤ length text → 0xF0 ≤ get_or text 0 0
      → IsHidden (decoding_of (get_or text 0 0 ∷ get_or text 1 0 ∷ get_or text 2 0 ∷ get_or text 3 0 ∷ [])) → NoneBegins text
  hidden_four long high = none_begins text _ 4 (λ code k is. (sized text code k is).four high) (take_four text long)

  -- there are too few bytes
  pub fewer_than_three : 0xE0 ≤ get_or text 0 0 → length text < 3 → NoneBegins text
  fewer_than_three high short code k is = ⊎_elim
      (λ (low : get_or text 0 0 < 0xF0). omega (arith, short, is.within, (sized text code k is).three high low))
      (λ (most : 0xF0 ≤ get_or text 0 0). omega (arith, short, is.within, (sized text code k is).four most))
      (cases_lt (get_or text 0 0) 0xF0)

  pub fewer_than_four : 0xF0 ≤ get_or text 0 0 → length text < 4 → NoneBegins text
  fewer_than_four high short code k is = omega (arith, short, is.within, (sized text code k is).four high)

pub if_none : {A : Type 0} (r : Option A) (P : Type 0) → P → IfNone r P
if_none None P is = is
if_none (Some x) P is = tt

pub none_then : {A : Type 0} (r : Option A) (P Q : Type 0) → IfNone r P → (P → Q) → IfNone r Q
none_then None P Q is then = then is
none_then (Some x) P Q is then = tt
