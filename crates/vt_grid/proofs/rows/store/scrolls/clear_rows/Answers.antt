use Rattle.std.proofs.Common.{◌≡◌, ℕ, ◌<◌, List, length, get_or, sym, ap, ◌∙◌, subst}
use Rattle.vt_grid.proofs.Clears.{cut_all-append, length-cut_all, pieces_within}
use Rattle.vt_grid.specs.Ring.{RowSlot, cut_all}
use Rattle.vt_grid.proofs.rows.store.scrolls.clear_rows.Goals as goal

pub cut_rows-requires-2 : goal.cut_rows-requires-2
cut_rows-requires-2 c =
    let front : List ℕ = c.pieces.result.0.now in
    let back : List ℕ = c.pieces.result.1.now in
    let rows : List RowSlot = c.args.rows.now in
    let len : length c.cut_rows.new.rows ≡ length rows =
    ap length c.cut_rows.ensures ∙ length-cut_all front c.args.c rows in
    let names = pieces_within c.args.ring.now front back c.args.from c.args.count (length rows)
    c.pieces.ensures c.requires.part c.requires.within in
    record {
      within = λ i i_in. subst (λ (n : ℕ). get_or back i 0 < n) (sym len) (names.1 i i_in);
    }

pub returns : goal.returns
returns c =
    let front : List ℕ = c.pieces.result.0.now in
    let back : List ℕ = c.pieces.result.1.now in
    c.cut_rows-2.ensures
    ∙ ap (λ (rows : List RowSlot). cut_all back c.args.c rows) c.cut_rows.ensures
    ∙ cut_all-append front back c.args.c c.args.rows.now
    ∙ ap (λ (order : List ℕ). cut_all order c.args.c c.args.rows.now) c.pieces.ensures
