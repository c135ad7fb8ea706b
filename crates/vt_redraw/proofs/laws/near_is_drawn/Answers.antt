use Rattle.vt_cells.proofs.Stated.{columns_are_few-worked}
use Rattle.vt_redraw.proofs.Stated.{near_is_drawn-drawn, near_is_drawn-exact, screens_redraw-screens}
use Rattle.vt_redraw.proofs.for_laws.Nearby.{near_cells, near_redraws, nothing_is_left_out}
use Rattle.vt_redraw.proofs.laws.near_is_drawn.Goals as goal

pub returns-clause-drawn : goal.returns-clause-drawn
returns-clause-drawn c = near_is_drawn-drawn

pub returns-clause-exact : goal.returns-clause-exact
returns-clause-exact c = near_is_drawn-exact

pub returns-clause-cells : goal.returns-clause-cells
returns-clause-cells c = near_cells

pub returns-clause-redraws : goal.returns-clause-redraws
returns-clause-redraws c = near_redraws columns_are_few-worked.replacement screens_redraw-screens

pub returns-clause-parts : goal.returns-clause-parts
returns-clause-parts c = nothing_is_left_out
