use Rattle.std.proofs.Common.{◌≡◌, ◌+◌, ◌*◌, ◌≤◌, ◌∷◌, ◌++◌, length, take}
use Rattle.std.specs.List.{flat_map}
use Rattle.vt_dump.specs.Rows.{cell_text}
use Rattle.vt_grid.specs.Grid.{row_at}
use Rattle.vt_dump.proofs.texts.add_row_text.Given as goal

abbrev pub invariant-loop-cell : goal.invariant-loop-cell
invariant-loop-cell l =
    let left = l.cell-iterator in
    record {
      bytes : (l.text.bytes ++ take l.count l.run) ++ flat_map cell_text left
          ≡ l.initial.text.bytes ++ 0x7C ∷ flat_map cell_text (row_at l.g l.y);
      long : length l.run ≡ 258;
      few : l.count + length left ≤ l.g.cols + 1;
      most : l.initial.text.room + l.count + length left * 4 ≤ l.text.room + l.g.cols * 4 + 1;
    }
