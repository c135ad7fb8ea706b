use Rattle.std.proofs.Common.{◌≡◌, ◌<◌, ◌≤◌, ◌-◌, take, drop}
use Rattle.std.specs.Prelude.{All}
use Rattle.vt_cells.specs.declared.cell.Cell.{Cell}
use Rattle.vt_grid.specs.Grid.{row_at, with_row}
use Rattle.vt_redraw.proofs.Nearing.{mixed}
use Rattle.vt_redraw.specs.Near.{near_row}
use Rattle.vt_redraw.specs.Nearing.{near_from}
use Rattle.vt_redraw.proofs.nearest.draw_row.Given as goal

abbrev pub invariant-loop-x : goal.invariant-loop-x
invariant-loop-x l =
    let row = row_at l.g l.y in
    record {
      within : l.x ≤ l.g.cols;
      rest : drop l.x (near_row row) ≡ near_from l.is_half (drop l.x row);
      done : l.shown ≡ with_row l.initial.shown l.y (mixed l.x (near_row row) (row_at l.initial.shown l.y));
      bytes : All (λ (c : Cell). c.attr < 256) (take l.x row);
    }

abbrev pub decreases-loop-x : goal.decreases-loop-x
decreases-loop-x l = l.g.cols - l.x
