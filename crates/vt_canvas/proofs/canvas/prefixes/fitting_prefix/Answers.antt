use Rattle.std.proofs.Common.{◌++◌, ℕ, List, get_or, sym, ap, ◌∙◌}
use Rattle.vt_cells.specs.Width.{columns}
use Rattle.vt_canvas.proofs.Spread.{cells_of_characters_more}
use Rattle.vt_canvas.specs.Printing.{cells_codes}
use Rattle.vt_canvas.proofs.canvas.prefixes.fitting_prefix.Goals as goal

pub loop-i-preserved : goal.loop-i-preserved
loop-i-preserved c =
    let codes : List ℕ = c.args.codes.now in
    let code : ℕ = get_or codes c.loop-i.i 0 in
    record {
      cells =
          c.add_cells.ensures.added c.if-not-add_cells.false
          ∙ ap (λ (cells : List ℕ). cells ++ cells_codes (columns code) code) c.loop-i.invariant.cells
          ∙ sym (cells_of_characters_more codes c.loop-i.i c.loop-i-test.true);
      few = c.add_cells.ensures.fits;
    }
