use Rattle.std.proofs.Common.{◌≡◌, ◌+◌, ◌-◌, min, ap, ◌∙◌, arith}
use Rattle.vt_grid.proofs.Scrolls.{shown_scrolled_down}
use Rattle.vt_grid.specs.StoredRow.{blank_row}
use Rattle.vt_grid.specs.Store.{with_run_of, part_turned, grid_view}
use Rattle.vt_grid.proofs.rows.store.RowStore.scroll_down.Goals as goal

pub returns : goal.returns
returns c =
    let store = c.args.self.now in
    let height = c.args.bottom + 1 - c.args.top in
    let count = c.min-count.result in
    let count_is : count ≡ min c.args.n height = omega arith in
    let up : c.args.bottom - c.args.top + 1 - count ≡ height - count = omega arith in
    ap grid_view
    (c.scroll_alone.ensures
    ∙ ap (λ n. record store {
      lines = with_run_of c.args.top count (blank_row c.args.c)
          (part_turned c.args.top c.args.bottom n store.lines);
    }) up)
    ∙ shown_scrolled_down store c.args.top c.args.bottom c.args.n count c.args.c c.requires.order
    c.requires.row c.stays_fit.ensures.fit count_is
