-- The text of a character is read as that character.
use Rattle.std.proofs.Common.{◌≡◌, ◌⊎◌, inl, inr, ℕ, ◌+◌, ◌-◌, ◌*◌, ◌/◌, ◌%◌, ◌<◌, ◌≤◌, ltb, true, List, [], ◌∷◌, refl, ap, ◌∙◌, arith}
use Rattle.std.specs.Char.{encode_utf8}
use Rattle.std.proofs.lemmas.Bool.{cases_lt, cond-true, cond-false, le-ltb, lt-ltb}
use Rattle.std.proofs.lemmas.Bool.Decides.{nat_tests}
use Rattle.vt_cells.specs.Width.{is_character}
use Rattle.vt_chars.specs.Utf8.{code_of, decoding_of, is_well_formed}
use Rattle.vt_chars.specs.declared.decoded.Decoded.TheVariants.{Character}

-- what is well formed is decoded as its code
well_decoding_of : (text : List ℕ) (code : ℕ) → is_well_formed text ≡ true → code_of text ≡ code → decoding_of text ≡ Character code
well_decoding_of text code well is = cond-true (is_well_formed text) _ _ well ∙ ap Character is

is_low : (c : ℕ) → is_character c ≡ true → c < 0x110000
is_low c is = grind (arith, nat_tests, is)

no_surrogate : (c : ℕ) → is_character c ≡ true → (c < 0xD800) ⊎ (0xE000 ≤ c)
no_surrogate c is = grind (arith, nat_tests, is)

one : (c : ℕ) → c < 0x80 → decoding_of (c ∷ []) ≡ Character c
one c h = well_decoding_of (c ∷ []) c (grind (arith, nat_tests, h)) refl

two : (c : ℕ) → 0x80 ≤ c → c < 0x800 → decoding_of ((192 + c / 64) ∷ (128 + c % 64) ∷ []) ≡ Character c
two c low high =
    well_decoding_of ((192 + c / 64) ∷ (128 + c % 64) ∷ []) c (grind (arith, nat_tests, low, high))
    (let e : (192 + c / 64 - 0xC0) * 0x40 + (128 + c % 64 - 0x80) ≡ c = omega (arith, low, high) in e)

three : (c : ℕ) → 0x800 ≤ c → c < 0x10000 → (c < 0xD800) ⊎ (0xE000 ≤ c)
    → decoding_of ((224 + c / 4096) ∷ (128 + c / 64 % 64) ∷ (128 + c % 64) ∷ []) ≡ Character c
three c low high apart =
    well_decoding_of ((224 + c / 4096) ∷ (128 + c / 64 % 64) ∷ (128 + c % 64) ∷ []) c (grind (arith, nat_tests, low, high, apart))
    (let e : ((224 + c / 4096 - 0xE0) * 0x40 + (128 + c / 64 % 64 - 0x80)) * 0x40 + (128 + c % 64 - 0x80) ≡ c = omega (arith, low, high) in e)

four : (c : ℕ) → 0x10000 ≤ c → c < 0x110000
    → decoding_of ((240 + c / 262144) ∷ (128 + c / 4096 % 64) ∷ (128 + c / 64 % 64) ∷ (128 + c % 64) ∷ []) ≡ Character c
four c low high =
    well_decoding_of ((240 + c / 262144) ∷ (128 + c / 4096 % 64) ∷ (128 + c / 64 % 64) ∷ (128 + c % 64) ∷ []) c (grind (arith, nat_tests, low, high))
    (let e : (((240 + c / 262144 - 0xF0) * 0x40 + (128 + c / 4096 % 64 - 0x80)) * 0x40 + (128 + c / 64 % 64 - 0x80)) * 0x40 + (128 + c % 64 - 0x80) ≡ c = omega (arith, low, high) in e)

pub encoding_decoding_of : (c : ℕ) → is_character c ≡ true → decoding_of (encode_utf8 c) ≡ Character c
unfolding encode_utf8
encoding_decoding_of c is = elim (cases_lt c 128) [
  | inl low ↦ ap decoding_of (cond-true (ltb c 128) _ _ (lt-ltb c 128 low)) ∙ one c low
  | inr past ↦ elim (cases_lt c 2048) [
    | inl low ↦
        ap decoding_of (cond-false (ltb c 128) _ _ (le-ltb c 128 past) ∙ cond-true (ltb c 2048) _ _ (lt-ltb c 2048 low))
        ∙ two c past low
    | inr further ↦ elim (cases_lt c 65536) [
      | inl low ↦
          ap decoding_of
          (cond-false (ltb c 128) _ _ (le-ltb c 128 past)
          ∙ cond-false (ltb c 2048) _ _ (le-ltb c 2048 further)
          ∙ cond-true (ltb c 65536) _ _ (lt-ltb c 65536 low))
          ∙ three c further low (no_surrogate c is)
      | inr furthest ↦
          ap decoding_of
          (cond-false (ltb c 128) _ _ (le-ltb c 128 past)
          ∙ cond-false (ltb c 2048) _ _ (le-ltb c 2048 further)
          ∙ cond-false (ltb c 65536) _ _ (le-ltb c 65536 furthest))
          ∙ four c furthest (is_low c is)
    ]
  ]
]
