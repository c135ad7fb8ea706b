use Rattle.std.proofs.Common.{set, ◌∙◌}
use Rattle.vt_grid.proofs.Parts.{shelf_set, shelf_of}
use Rattle.vt_grid.proofs.rows.row.Row.write.Goals as goal

pub returns-else-x-self : goal.returns-else-x-self
returns-else-x-self c =
    let cells = c.self.inside.cells.items in
    (λ i. shelf_of (set cells (c.from.ensures i) (c.new.ensures i)) c.self.inside.len c.self.inside.rest)
    ∙ shelf_set c.args.x c.self.inside.len c.args.c c.self.inside.rest cells c.args.self.now
    c.if-x-self.false c.requires.place c.self.invariant.0 c.self.view_is
