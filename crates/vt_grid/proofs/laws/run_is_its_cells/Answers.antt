use Rattle.vt_grid.proofs.for_laws.Runs.{cell_keeps_width, run_of_more, run_of_none}
use Rattle.vt_grid.proofs.laws.run_is_its_cells.Goals as goal

pub returns-clause-none : goal.returns-clause-none
returns-clause-none c = run_of_none

pub returns-clause-more : goal.returns-clause-more
returns-clause-more c = run_of_more

pub returns-clause-width : goal.returns-clause-width
returns-clause-width c = cell_keeps_width
