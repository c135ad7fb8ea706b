use Rattle.std.proofs.Common.{◌≡◌, ◌<◌, map, replicate, take}
use Rattle.std.specs.Prelude.{All}
use Rattle.vt_canvas.specs.Screen.{start_blank}
use Rattle.vt_cells.specs.declared.cell.Cell.{Cell}
use Rattle.vt_redraw.proofs.Nearing.{mixed}
use Rattle.vt_redraw.specs.Near.{near_row}
use Rattle.vt_redraw.proofs.nearest.near_grid.Given as goal

abbrev pub invariant-loop-y : goal.invariant-loop-y
invariant-loop-y l = record {
  done : l.shown
      ≡ record l.g {
        cells = mixed l.y (map near_row l.g.cells) (replicate l.g.rows (replicate l.g.cols start_blank));
      };
  bytes : All (All (λ (c : Cell). c.attr < 256)) (take l.y l.g.cells);
}
