-- The digits of the colours of an attribute byte.
use Rattle.std.proofs.Common.{◌≡◌, ℕ, zero, suc, ◌+◌, ◌/◌, ◌%◌, ◌<◌, ◌==◌, Bool, true, false, [], ◌∷◌, ◌++◌, refl, arith}
use Rattle.std.specs.Fmt.{decimal, digits}
use Rattle.std.specs.Prelude.{if◌then◌else◌}
use Rattle.vt_cells.specs.AttrByte.{vga}
use Rattle.vt_redraw.specs.Pending.{end_of_byte, start_of_byte}
use Rattle.vt_redraw.specs.Sequences.{byte_text, sequence}

from_tens : (c : ℕ) → c < 8
    → (decimal (30 + c) ≡ 0x33 ∷ (0x30 + c) ∷ []) × (decimal (40 + c) ≡ 0x34 ∷ (0x30 + c) ∷ [])
unfolding digits
from_tens zero h = (refl, refl)
from_tens (suc zero) h = (refl, refl)
from_tens (suc (suc zero)) h = (refl, refl)
from_tens (suc (suc (suc zero))) h = (refl, refl)
from_tens (suc (suc (suc (suc zero)))) h = (refl, refl)
from_tens (suc (suc (suc (suc (suc zero))))) h = (refl, refl)
from_tens (suc (suc (suc (suc (suc (suc zero)))))) h = (refl, refl)
from_tens (suc (suc (suc (suc (suc (suc (suc zero))))))) h = (refl, refl)
from_tens (suc (suc (suc (suc (suc (suc (suc (suc c)))))))) h = absurd (omega (arith, h))

pub byte_text_is : (b : ℕ) → vga (b % 8) < 8 → vga (b / 16 % 8) < 8 → byte_text b ≡ start_of_byte b ++ end_of_byte b
unfolding byte_text digits
byte_text_is b fg bg = by (b / 8 % 2 == 1) (b / 128 == 1)
  where
    by : (bold blink : Bool)
        → sequence 0 ((if bold then 1 ∷ [] else []) ++ ((if blink then 5 ∷ [] else []) ++ (30 + vga (b % 8)) ∷ (40 + vga (b / 16 % 8)) ∷ [])) 0x6D
        ≡ (0x1B ∷ 0x5B ∷ 0x30 ∷ 0x3B ∷ (if bold then 0x31 ∷ 0x3B ∷ [] else []) ++ ((if blink then 0x35 ∷ 0x3B ∷ [] else []) ++ 0x33 ∷ [])) ++ end_of_byte b
    by true true = λ i. 0x1B ∷ 0x5B ∷ (decimal 0 ++ (0x3B ∷ decimal 1 ++ (0x3B ∷ decimal 5 ++ (0x3B ∷ (from_tens (vga (b % 8)) fg).0 i ++ (0x3B ∷ (from_tens (vga (b / 16 % 8)) bg).1 i ++ []))))) ++ 0x6D ∷ []
    by true false = λ i. 0x1B ∷ 0x5B ∷ (decimal 0 ++ (0x3B ∷ decimal 1 ++ (0x3B ∷ (from_tens (vga (b % 8)) fg).0 i ++ (0x3B ∷ (from_tens (vga (b / 16 % 8)) bg).1 i ++ [])))) ++ 0x6D ∷ []
    by false true = λ i. 0x1B ∷ 0x5B ∷ (decimal 0 ++ (0x3B ∷ decimal 5 ++ (0x3B ∷ (from_tens (vga (b % 8)) fg).0 i ++ (0x3B ∷ (from_tens (vga (b / 16 % 8)) bg).1 i ++ [])))) ++ 0x6D ∷ []
    by false false = λ i. 0x1B ∷ 0x5B ∷ (decimal 0 ++ (0x3B ∷ (from_tens (vga (b % 8)) fg).0 i ++ (0x3B ∷ (from_tens (vga (b / 16 % 8)) bg).1 i ++ []))) ++ 0x6D ∷ []
