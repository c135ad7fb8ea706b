use Rattle.std.proofs.Common.{ap, ◌∙◌}
use Rattle.vt_grid.proofs.Shown.{shown_blank_store}
use Rattle.vt_grid.specs.Store.{grid_view}
use Rattle.vt_grid.proofs.grid.Grid.blank.Goals as goal

pub returns : goal.returns
returns c = ap grid_view c.in_ok-store.ensures ∙ shown_blank_store _ _ _
