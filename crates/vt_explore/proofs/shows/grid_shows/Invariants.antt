use Rattle.std.proofs.Common.{◌≡◌, false, take}
use Rattle.std.specs.List.{list_any}
use Rattle.vt_explore.specs.Shows.{stands_in}
use Rattle.vt_explore.proofs.shows.grid_shows.Given as goal

-- no row before y has the text
abbrev pub invariant-loop-y : goal.invariant-loop-y
invariant-loop-y l = list_any (stands_in l.text) (take l.y l.grid.cells) ≡ false
