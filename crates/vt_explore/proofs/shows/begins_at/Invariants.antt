use Rattle.std.proofs.Common.{◌≡◌, ◌+◌, drop}
use Rattle.vt_explore.specs.Shows.{begins}
use Rattle.vt_grid.specs.Grid.{row_at}
use Rattle.vt_explore.proofs.shows.begins_at.Given as goal

-- what is left of the text has to begin at the column `at`
abbrev pub invariant-loop-code : goal.invariant-loop-code
invariant-loop-code l =
    (l.at ≡ l.x + l.code-index)
    × (begins (drop l.code-index l.text) (drop l.at (row_at l.grid l.y)) ≡ begins l.text (drop l.x (row_at l.grid l.y)))
