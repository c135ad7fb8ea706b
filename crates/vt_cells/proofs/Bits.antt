-- The results of the bit operations on an attribute byte, in numbers. Each is computed for all bytes.
use Rattle.std.proofs.Common.{◌≡◌, ℕ, ◌*◌, ◌/◌, ◌%◌, ◌<◌, true, List, [], ◌∷◌, eqb, ltb, refl, ap, ◌∙◌, arith}
use Rattle.std.proofs.lemmas.Bool.{agree_below, agree_below_at, eqb-true, ltb-true}
use Rattle.std.proofs.lemmas.Nat.{or_shifted, shl_whole}
use Rattle.std.specs.Int.Bits.{bit_and, bit_or, bit_xor}
use Rattle.std.specs.Prelude.{slice_index}
use Rattle.vt_cells.specs.AttrByte.{byte_of, with_bit_flipped, with_colours_swapped, vga}

-- two functions that agree at each byte by computing are equal there
same_at : (f g : ℕ → ℕ) → agree_below (λ b. eqb (f b) (g b)) (λ _. true) 256 ≡ true → (b : ℕ) → b < 256 → f b ≡ g b
same_at f g e b h = eqb-true _ _ (agree_below_at (λ b. eqb (f b) (g b)) (λ _. true) 256 b e h)

pub with_colours_swapped-bits : (b : ℕ) → b < 256 → bit_or (bit_and b 136) (bit_and (bit_or (b / 16) (b * 16 % 256)) 119) ≡ with_colours_swapped b
with_colours_swapped-bits =
    same_at (λ b. bit_or (bit_and b 136) (bit_and (bit_or (b / 16) (b * 16 % 256)) 119)) with_colours_swapped refl

pub blink_bit : (b : ℕ) → b < 256 → bit_xor b 128 ≡ with_bit_flipped 128 b
blink_bit = same_at (λ b. bit_xor b 128) (with_bit_flipped 128) refl

pub bright_bit : (b : ℕ) → b < 256 → bit_xor b 8 ≡ with_bit_flipped 8 b
bright_bit = same_at (λ b. bit_xor b 8) (with_bit_flipped 8) refl

pub both_bits : (bg fg : ℕ) → bg < 16 → fg < 16 → bit_or (bg * 16 % 256) fg ≡ byte_of bg fg
both_bits bg fg h k =
    ap (λ high. bit_or high fg) (shl_whole bg 4 4 8 h (omega arith)) ∙ or_shifted bg 4 fg k ∙ omega arith

-- the numbers of VGA in the code's table
abbrev numbers : List ℕ
numbers = 0 ∷ 4 ∷ 2 ∷ 6 ∷ 1 ∷ 5 ∷ 3 ∷ 7 ∷ 8 ∷ 12 ∷ 10 ∷ 14 ∷ 9 ∷ 13 ∷ 11 ∷ 15 ∷ []

pub number_is : (c : ℕ) → c < 16 → slice_index numbers c ≡ vga c
number_is c h = eqb-true _ _ (agree_below_at (λ c. eqb (slice_index numbers c) (vga c)) (λ _. true) 16 c refl h)

pub vga_below : (c : ℕ) → c < 16 → vga c < 16
vga_below c h = ltb-true _ _ (agree_below_at (λ c. ltb (vga c) 16) (λ _. true) 16 c refl h)

pub ruleset bits = (vga_below, with_colours_swapped-bits, blink_bit, bright_bit, both_bits)
