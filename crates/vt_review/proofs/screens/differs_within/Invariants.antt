use Rattle.std.proofs.Common.{◌≡◌, flat_map}
use Rattle.vt_dump.specs.Rows.{cell_text}
use Rattle.vt_grid.specs.Grid.{row_at}
use Rattle.vt_review.proofs.screens.differs_within.Given as goal

abbrev pub invariant-cells : goal.invariant-cells
invariant-cells l =
    flat_map cell_text (row_at l.before l.y) ≡ flat_map cell_text (row_at l.after l.y)
    → flat_map cell_text l.was ≡ flat_map cell_text l.is
