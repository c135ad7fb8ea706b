use Rattle.std.proofs.Common.{◌+◌, Bool, ap, ◌∙◌, sym, ◌∷◌, List, drop, arith}
use Rattle.vt_cells.specs.declared.cell.Cell.{Cell}
use Rattle.vt_grid.specs.Grid.{row_at}
use Rattle.vt_redraw.proofs.Nearing.{byte_here, cell_step}
use Rattle.vt_redraw.specs.Nearing.{near_from}
use Rattle.vt_redraw.proofs.nearest.draw_cell.Goals as goal

pub returns-clause-cell : goal.returns-clause-cell
returns-clause-cell c =
    let pair : Bool = c.begins_pair-has_half.result in
    let row : List Cell = row_at c.args.g.now c.args.y in (
      c.shown_cell.result,
      c.put.ensures,
      cell_step c.args.is_half pair row c.args.x c.at-cell.result c.at-cell.ensures c.begins_pair-has_half.ensures
          ∙ ap (λ (d : Cell). d ∷ near_from pair (drop (c.args.x + 1) row)) (sym c.shown_cell.ensures),
    )

pub returns-clause-byte : goal.returns-clause-byte
returns-clause-byte c = byte_here (row_at c.args.g.now c.args.y) c.args.x c.at-cell.result c.at-cell.ensures (omega arith)
