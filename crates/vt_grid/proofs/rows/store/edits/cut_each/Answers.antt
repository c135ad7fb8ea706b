use Rattle.std.proofs.Common.{◌∙◌, ap, sym, arith}
use Rattle.vt_grid.proofs.Clears.{blank_more}
use Rattle.vt_grid.specs.Ring.{blank_slot}
use Rattle.vt_grid.proofs.rows.store.edits.cut_each.Goals as goal

pub loop-i-preserved : goal.loop-i-preserved
loop-i-preserved c =
    blank_more c.args.c c.args.rows.now c.loop-i.rows c.loop-i.i c.index-rows-i.result c.cut.new.self
    (omega arith) c.loop-i.invariant c.index-rows-i.is
    (c.cut.ensures ∙ ap (blank_slot c.args.c) (sym c.index-rows-i.is))
