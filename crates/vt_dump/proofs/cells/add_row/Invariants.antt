use Rattle.std.proofs.Common.{◌≡◌, ◌+◌, ◌*◌, ◌≤◌, ◌++◌, length}
use Rattle.std.specs.List.{flat_map}
use Rattle.vt_dump.specs.Forms.{cell_bytes, most_bytes}
use Rattle.vt_grid.specs.Grid.{row_at}
use Rattle.vt_dump.proofs.cells.add_row.Given as goal

abbrev pub invariant-loop-cell : goal.invariant-loop-cell
invariant-loop-cell l =
    let left = l.cell-iterator in
    let most = most_bytes l.form in
    record {
      bytes : l.out.bytes ++ flat_map (cell_bytes l.form) left
          ≡ l.initial.out.bytes ++ flat_map (cell_bytes l.form) (row_at l.g l.y);
      room : l.out.room + length l.out.bytes ≡ l.initial.out.room + length l.initial.out.bytes;
      most : l.initial.out.room + length left * most ≤ l.out.room + l.g.cols * most;
    }
