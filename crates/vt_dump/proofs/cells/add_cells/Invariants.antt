use Rattle.std.proofs.Common.{◌≡◌, ◌+◌, ◌*◌, ◌≤◌, ◌++◌, drop, length}
use Rattle.std.specs.List.{flat_map}
use Rattle.vt_dump.specs.Forms.{cell_bytes, most_bytes}
use Rattle.vt_dump.proofs.cells.add_cells.Given as goal

abbrev pub invariant-loop-y : goal.invariant-loop-y
invariant-loop-y l =
    record {
      bytes : l.out.bytes ++ flat_map (flat_map (cell_bytes l.form)) (drop l.y l.g.cells)
          ≡ l.initial.out.bytes ++ flat_map (flat_map (cell_bytes l.form)) l.g.cells;
      room : l.out.room + length l.out.bytes ≡ l.initial.out.room + length l.initial.out.bytes;
      most : l.initial.out.room ≤ l.out.room + l.y * (l.g.cols * most_bytes l.form);
    }
