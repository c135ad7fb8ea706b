use Rattle.std.proofs.Common.{◌≡◌, ◌+◌, ◌*◌, ◌≤◌, ◌++◌, length}
use Rattle.vt_grid.specs.Grid.{row_at}
use Rattle.vt_redraw.specs.Cells.{cells_text}
use Rattle.vt_redraw.specs.Pending.{pending_text}
use Rattle.vt_redraw.proofs.cells.add_cells.Given as goal

abbrev pub invariant-loop-cell : goal.invariant-loop-cell
invariant-loop-cell l =
    let rest = l.cell-iterator in
    record {
      text : l.text.bytes ++ pending_text l.erases l.pending rest
          ≡ l.initial.text.bytes ++ cells_text l.erases 256 (row_at l.g l.y);
      room : length l.pending.front + l.pending.blanks + 4 * length rest ≤ 1020;
    }
