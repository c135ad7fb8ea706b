use Rattle.vt_grid.specs.Grid.{row_at}
use Rattle.vt_picture.specs.Runs.{are_joined}
use Rattle.vt_picture.proofs.Groups.{JoinedFrom}
use Rattle.vt_picture.proofs.runs.run_length.Given as goal

abbrev pub invariant-loop-next : goal.invariant-loop-next
invariant-loop-next l = JoinedFrom are_joined (row_at l.g l.y) l.x l.next
