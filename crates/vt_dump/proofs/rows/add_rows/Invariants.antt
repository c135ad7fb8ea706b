use Rattle.std.proofs.Common.{◌≡◌, ◌+◌, ◌*◌, ◌≤◌, ◌++◌, drop}
use Rattle.std.specs.List.{flat_map}
use Rattle.vt_dump.specs.Rows.{row_text, rows_text}
use Rattle.vt_dump.proofs.rows.add_rows.Given as goal

abbrev pub invariant-loop-y : goal.invariant-loop-y
invariant-loop-y l =
    record {
      bytes : l.text.bytes ++ flat_map row_text (drop l.y l.g.cells)
          ≡ l.fn.text.bytes ++ rows_text l.g.cells;
      most : l.g.rows * (l.g.cols * 4 + 3) ≤ l.text.room + l.y * (l.g.cols * 4 + 3);
    }
