-- The text of a cell with a printable character of ASCII.
use Rattle.std.proofs.Common.{◌≡◌, ◌≤◌, ◌∷◌, true, false, [], ℕ, cond, ◌∙◌, arith}
use Rattle.std.proofs.lemmas.Bool.{ne_eqb}
use Rattle.std.proofs.lemmas.Bool.Decides.{nat_tests}
use Rattle.std.specs.Char.{encode_utf8}
use Rattle.vt_cells.specs.Width.{is_half}
use Rattle.vt_cells.specs.declared.cell.Cell.{Cell}
use Rattle.vt_dump.specs.Rows.{cell_text, is_shown}

one_byte : (code : ℕ) → code ≤ 0x7E → encode_utf8 code ≡ code ∷ []
unfolding encode_utf8
one_byte code high = grind (arith, nat_tests, high)

pub printable_text : (cell : Cell) → 0x20 ≤ cell.code → cell.code ≤ 0x7E → cell_text cell ≡ cell.code ∷ []
printable_text cell low high =
    let half : is_half cell ≡ false = ne_eqb cell.code 0x110000 (λ same. let e : ⊥ = omega (arith, same, high) in e) in
    let shown : is_shown cell.code ≡ true = grind (arith, nat_tests, low, high) in
    (λ i. cond (half i) [] (cond (shown i) (encode_utf8 cell.code) (0x3F ∷ []))) ∙ one_byte cell.code high
