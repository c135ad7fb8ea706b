use Rattle.std.proofs.Common.{flat_map, sym, ap, ◌∙◌}
use Rattle.vt_dump.specs.Rows.{cell_text}
use Rattle.vt_grid.specs.Grid.{row_at}
use Rattle.vt_review.proofs.Differences.{alike_after, texts_differ}
use Rattle.vt_review.proofs.screens.differs_within.Goals as goal

pub returns-then-is_own_byte : goal.returns-then-is_own_byte
returns-then-is_own_byte c = λ yes.
    texts_differ c.in-Some-Some.old c.in-Some-Some.new c.next.new.self c.next-in-cells.new.self
    (row_at c.args.before.now c.args.y) (row_at c.args.after.now c.args.y)
    (λ alike. ap (flat_map cell_text) (sym c.in-Some-Some.ensures.steps) ∙ c.cells.invariant alike
    ∙ ap (flat_map cell_text) c.in-Some-Some.ensures'.steps)
    (c.is_own_byte.ensures.text c.if-is_own_byte.true) (c.is_own_byte-then-is_own_byte.ensures.text yes)
    c.if-old-new.true

pub cells-preserved : goal.cells-preserved
cells-preserved c = λ alike.
    alike_after c.in-Some-Some.old c.in-Some-Some.new c.next.new.self c.next-in-cells.new.self c.if-old-new.false
    (ap (flat_map cell_text) (sym c.in-Some-Some.ensures.steps) ∙ c.cells.invariant alike
    ∙ ap (flat_map cell_text) c.in-Some-Some.ensures'.steps)
