use Rattle.vt_grid.specs.Grid.{row_at}
use Rattle.vt_picture.specs.Runs.{are_alike}
use Rattle.vt_picture.proofs.Groups.{JoinedFrom}
use Rattle.vt_picture.proofs.runs.word_length.Given as goal

abbrev pub invariant-loop-next : goal.invariant-loop-next
invariant-loop-next l = JoinedFrom are_alike (row_at l.g l.y) l.x l.next
