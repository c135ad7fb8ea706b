use Rattle.std.proofs.Common.{◌≡◌, ◌-◌, ◌≤◌, ◌++◌, drop}
use Rattle.vt_grid.specs.Grid.{row_at}
use Rattle.vt_picture.specs.Picture.{runs_text}
use Rattle.vt_picture.specs.Runs.{runs}
use Rattle.vt_picture.proofs.rows.add_row.Given as goal

abbrev pub invariant-loop-x : goal.invariant-loop-x
invariant-loop-x l =
    let row = row_at l.g l.y in
    record {
      within : l.x ≤ l.g.cols;
      bytes : l.text.bytes ++ runs_text l.state l.y l.x (runs (drop l.x row))
          ≡ l.fn.text.bytes ++ runs_text l.state l.y 0 (runs row);
    }

abbrev pub decreases-loop-x : goal.decreases-loop-x
decreases-loop-x l = l.g.cols - l.x
