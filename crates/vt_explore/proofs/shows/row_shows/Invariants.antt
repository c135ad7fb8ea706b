use Rattle.std.proofs.Common.{◌≡◌, drop}
use Rattle.vt_explore.specs.Shows.{stands_in}
use Rattle.vt_grid.specs.Grid.{row_at}
use Rattle.vt_explore.proofs.shows.row_shows.Given as goal

-- the text doesn't begin before the column x
abbrev pub invariant-loop-x : goal.invariant-loop-x
invariant-loop-x l = stands_in l.text (drop l.x (row_at l.grid l.y)) ≡ stands_in l.text (row_at l.grid l.y)
