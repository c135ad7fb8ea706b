use Rattle.std.proofs.Common.{◌≡◌, ◌+◌, ◌-◌, min, ap, ◌∙◌, arith}
use Rattle.vt_grid.proofs.Scrolls.{shown_scrolled_up}
use Rattle.vt_grid.specs.Store.{grid_view}
use Rattle.vt_grid.proofs.rows.store.RowStore.scroll_up.Goals as goal

pub returns-clause-grid : goal.returns-clause-grid
returns-clause-grid g c =
    let count = c.min-count.result in
    let count_is : count ≡ min c.args.n (c.args.bottom + 1 - c.args.top) = omega arith in
    ap grid_view c.scroll.ensures.rows
    ∙ shown_scrolled_up c.args.self.now c.args.top c.args.bottom c.args.n count c.args.c
    c.requires.order c.requires.row c.stays_fit.ensures.fit count_is
