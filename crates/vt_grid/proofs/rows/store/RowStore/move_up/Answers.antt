use Rattle.std.proofs.Common.{List, sym, ap, arith}
use Rattle.vt_grid.proofs.Turns.{part_turned_whole}
use Rattle.vt_grid.specs.StoredRow.{StoredRow}
use Rattle.vt_grid.proofs.rows.store.RowStore.move_up.Goals as goal

pub returns-then-n-bottom-clause-rows : goal.returns-then-n-bottom-clause-rows
returns-then-n-bottom-clause-rows g c =
    ap (λ (lines : List StoredRow). record c.args.self.now { lines = lines })
    (sym (part_turned_whole c.args.top c.args.bottom c.args.n c.args.self.now.lines c.requires.region.order
    (omega (arith, c.size-rows.ensures.fit.tall)) (omega arith)))
