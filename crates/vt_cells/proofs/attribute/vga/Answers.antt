use Rattle.std.proofs.Common.{◌<◌, sym, ap, ◌∙◌, subst, arith}
use Rattle.vt_cells.proofs.Bits.{number_is, vga_below}
use Rattle.vt_cells.specs.AttrByte.{vga}
use Rattle.vt_cells.proofs.attribute.vga.Goals as goal

pub returns-clause-colour : goal.returns-clause-colour
returns-clause-colour c = number_is c.from.result (omega (arith, c.from.ensures, c.requires)) ∙ ap vga c.from.ensures

pub returns-clause-nibble : goal.returns-clause-nibble
returns-clause-nibble c =
    subst (λ n. n < 16) (sym (number_is c.from.result (omega (arith, c.from.ensures, c.requires))))
    (vga_below c.from.result (omega (arith, c.from.ensures, c.requires)))
