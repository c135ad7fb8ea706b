-- Characters of two or three bytes, whatever continuation bytes follow the first one.
use Rattle.std.proofs.Common.{◌≡◌, ℕ, Bool, true, false, not, ◌++◌, replicate, slice_index_or, ◌==◌, ◌&&◌, ◌<◌, ◌≤◌, zero, suc, List, [], ◌∷◌, length, take, get_or, refl, sym, ap, ◌∙◌, subst, ◌⊎◌, inl, inr, ⊎_elim, arith}
use Rattle.std.proofs.lemmas.Bool.{agree_below_at, and_parts, cases_lt, cond-false, false≢true}
use Rattle.std.proofs.lemmas.Bool.Decides.{nat_tests}
use Rattle.std.proofs.lemmas.List.{take-take}
use Rattle.vt_chars.specs.Utf8.{is_second, is_tail, within}
use Rattle.vt_units.proofs.Sizes.{Sized, sized}
use Rattle.vt_units.proofs.Wholes.{well}
use Rattle.vt_units.specs.Characters.{Begins, IsTextOf, NoneBegins, is_common}

-- the flags of the bytes, from 0 on
abbrev flags : List Bool
flags =
    replicate 195 false ++ replicate 29 true ++ replicate 1 false ++ replicate 12 true ++ replicate 1 false
    ++ replicate 2 true ++ replicate 16 false

pub flag_is : (a : ℕ) → a < 256 → slice_index_or flags a false ≡ is_common a
flag_is a below = agree_below_at (λ a. slice_index_or flags a false) is_common 256 a refl below

-- any tail may follow
second_is : (a b : ℕ) → is_common a ≡ true → is_second a b ≡ is_tail b
second_is a b common = grind (arith, nat_tests)

module _ (a b c code n : ℕ) (common : is_common a ≡ true) (is : Begins (a ∷ b ∷ c ∷ []) code n) where
  two-tail : n ≡ 2 → is_tail b ≡ true
  two-tail two =
      let here = subst (λ (k : ℕ). Begins (a ∷ b ∷ c ∷ []) code k) two is in
      (and_parts (within 0xC2 0xDF a) (is_tail b) (well (a ∷ b ∷ []) code here.first.whole).0).1

  three-tails : n ≡ 3 → (is_tail b ≡ true) × (is_tail c ≡ true)
  three-tails three =
      let here = subst (λ (k : ℕ). Begins (a ∷ b ∷ c ∷ []) code k) three is in
      let parts = and_parts (within 0xE0 0xEF a && is_second a b) (is_tail c) (well (a ∷ b ∷ c ∷ []) code here.first.whole).0 in
      let front = and_parts (within 0xE0 0xEF a) (is_second a b) parts.0 in
      (sym (second_is a b common) ∙ front.1, parts.1)

-- such a character has two bytes or three
size_is : (a n : ℕ) → is_common a ≡ true → Sized a n → ((a < 0xE0) × (n ≡ 2)) ⊎ ((0xE0 ≤ a) × (n ≡ 3))
size_is a n common size =
    let low : 0x80 ≤ a = grind (arith, nat_tests) in
    let high : a < 0xF0 = grind (arith, nat_tests) in
    ⊎_elim (λ (less : a < 0xE0). inl (less, size.two low less)) (λ (most : 0xE0 ≤ a). inr (most, size.three most high))
    (cases_lt a 0xE0)

-- a byte that has to be a tail is none
pub none_common : (a b c last : ℕ) → is_common a ≡ true → (a < 0xE0 → last ≡ 0x80) → (0xE0 ≤ a → last ≡ c)
    → (is_tail b ≡ false) ⊎ (is_tail last ≡ false) → NoneBegins (a ∷ b ∷ c ∷ [])
none_common a b c last common two three fails code n is = ⊎_elim
    (λ (size : (a < 0xE0) × (n ≡ 2)). ⊎_elim
    (λ (second : is_tail b ≡ false). false≢true (sym second ∙ two-tail a b c code n common is size.1))
    (λ (third : is_tail last ≡ false). false≢true (sym third ∙ ap is_tail (two size.0)))
    fails)
    (λ (size : (0xE0 ≤ a) × (n ≡ 3)).
    let tails = three-tails a b c code n common is size.1 in
    ⊎_elim
    (λ (second : is_tail b ≡ false). false≢true (sym second ∙ tails.0))
    (λ (third : is_tail last ≡ false). false≢true (sym third ∙ ap is_tail (three size.0) ∙ tails.1))
    fails)
    (size_is a n common (sized (a ∷ b ∷ c ∷ []) code n is))

-- three bytes of a text
module _ (text : List ℕ) (a b c : ℕ) (long : 3 ≤ length text) (front : take 3 text ≡ a ∷ b ∷ c ∷ []) where
  -- begin with a character that the text begins with
  pub begins_longer : (code n : ℕ) → Begins (a ∷ b ∷ c ∷ []) code n → Begins text code n
  begins_longer code n is = record {
    some = is.some;
    within = omega (arith, is.within, long);
    first =
        subst (λ (xs : List ℕ). IsTextOf xs code)
        (ap (λ (xs : List ℕ). take n xs) (sym front) ∙ take-take n 3 text (omega (arith, is.within))) is.first;
  }

  -- begin with one, where the text does
  pub none_longer : is_common a ≡ true → get_or text 0 0 ≡ a → NoneBegins (a ∷ b ∷ c ∷ []) → NoneBegins text
  none_longer common head never code n is =
      let size = sized text code n is in
      let few : n ≤ 3 = ⊎_elim
      (λ (two : (a < 0xE0) × (n ≡ 2)). omega (arith, two.1))
      (λ (three : (0xE0 ≤ a) × (n ≡ 3)). omega (arith, three.1))
      (size_is a n common (subst (λ (x : ℕ). Sized x n) head size)) in
      never code n (record {
        some = is.some;
        within = few;
        first =
            subst (λ (xs : List ℕ). IsTextOf xs code)
            (sym (take-take n 3 text few) ∙ ap (λ (xs : List ℕ). take n xs) front) is.first;
      })
