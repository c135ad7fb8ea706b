use Rattle.std.proofs.Common.{◌≡◌, replicate}
use Rattle.vt_grid.specs.StoredRow.{blank_row}
use Rattle.vt_grid.proofs.rows.store.RowStore.blank.Given as goal

abbrev pub invariant-loop-y : goal.invariant-loop-y
invariant-loop-y l =
    l.rows.items ≡ replicate l._y (record { room = l.size.cols; line = blank_row l.c })
