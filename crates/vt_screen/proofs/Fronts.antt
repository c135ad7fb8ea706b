-- The printable bytes at the front of a text.
use Rattle.std.proofs.Common.{◌≡◌, ◌<◌, arith, ℕ, Bool, true, false, List, [], ◌∷◌, ◌++◌, take, refl, sym, ap, subst, leb-true, nat_le, ◌≢◌, if◌then◌else◌}
use Rattle.std.proofs.lemmas.Bool.{and_parts}
use Rattle.vt_screen.proofs.Printed.{AllPrintable, prefix_printable}
use Rattle.vt_units.specs.Bytes.{is_printable}
use Rattle.std.specs.List.{prefix_len}
use Rattle.vt_cells.specs.Width.{LowTakeOne, columns}
use Rattle.vt_canvas.specs.Printing.{cells_codes, cells_of_characters}

-- one character of one column is its code
one_code : (w code : ℕ) → w ≡ 1 → cells_codes w code ≡ code ∷ []
one_code w code is = ap (λ n. cells_codes n code) is

-- printable bytes take one column each
pub printable_cells_of_characters : LowTakeOne → (bytes : List ℕ) → AllPrintable bytes → cells_of_characters bytes ≡ bytes
printable_cells_of_characters low [] all = refl
printable_cells_of_characters low (b ∷ bytes) all =
    let ends = and_parts (nat_le 0x20 b) (nat_le b 0x7E) all.0 in
    let below : b < 0x300 = omega (arith, leb-true b 0x7E ends.1) in
    let other : b ≢ 0xAD = omega (arith, leb-true b 0x7E ends.1) in
    λ i. one_code (columns b) b (low b below other) i ++ printable_cells_of_characters low bytes all.1 i

-- the printable bytes at the front of a text, if the reader takes any
pub front_cells_of_characters : LowTakeOne → (takes : Bool) (text : List ℕ) (count : ℕ)
    → count ≡ (if takes then prefix_len is_printable text else 0)
    → cells_of_characters (take count text) ≡ take count text
front_cells_of_characters low true text count is =
    printable_cells_of_characters low (take count text)
    (subst (λ (n : ℕ). AllPrintable (take n text)) (sym is) (prefix_printable text))
front_cells_of_characters low false text count is =
    subst (λ (n : ℕ). cells_of_characters (take n text) ≡ take n text) (sym is) refl
