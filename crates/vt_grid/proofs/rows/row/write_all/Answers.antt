use Rattle.std.proofs.Common.{◌∙◌, set, arith}
use Rattle.vt_grid.proofs.Parts.{map_onto_more}
use Rattle.vt_grid.proofs.rows.row.write_all.Goals as goal

pub loop-i-preserved : goal.loop-i-preserved
loop-i-preserved g c =
    (λ j. set (c.loop-i.invariant j) c.loop-i.i
    ((c.new.ensures ∙ (λ k. record { code = c.code.ensures k; attr = c.args.attr })) j))
    ∙ map_onto_more _ c.args.codes.now c.args.cells.now c.loop-i.i c.index-codes-i.result
    (omega arith) (omega arith) c.index-codes-i.is
