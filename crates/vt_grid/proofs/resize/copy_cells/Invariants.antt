use Rattle.std.proofs.Common.{◌≡◌, take, drop}
use Rattle.vt_grid.specs.Grid.{rows_laid_over}
use Rattle.vt_grid.specs.Halves.{split_wide_rows}
use Rattle.vt_grid.proofs.resize.copy_cells.Given as goal

abbrev pub invariant-loop-y : goal.invariant-loop-y
invariant-loop-y l =
    l.fresh
    ≡ record l.fn.fresh {
      cells = rows_laid_over (take l.y (drop l.skip (split_wide_rows l.border l.old).cells)) l.fn.fresh.cells;
    }
