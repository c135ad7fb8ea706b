use Rattle.std.proofs.Common.{◌≡◌, ◌+◌, ◌*◌, ◌≤◌, ◌++◌, length}
use Rattle.std.specs.List.{flat_map}
use Rattle.vt_dump.specs.Rows.{cell_text}
use Rattle.vt_grid.specs.Grid.{row_at}
use Rattle.vt_dump.proofs.characters.row_characters.Given as goal

abbrev pub invariant-loop-cell : goal.invariant-loop-cell
invariant-loop-cell l =
    let left = l.cell-iterator in
    record {
      bytes : l.text ++ flat_map cell_text left ≡ flat_map cell_text (row_at l.g l.y);
      few : length l.text + length left * 4 ≤ 1020;
    }
