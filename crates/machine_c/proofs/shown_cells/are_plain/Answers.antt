use Rattle.std.proofs.Common.{List, [], subst}
use Rattle.std.specs.List.{All}
use Rattle.std.proofs.lemmas.List.{take_all}
use Rattle.std.proofs.lemmas.List.Elements.{All-more}
use Rattle.c_cells.specs.Cells.{HasNoSpare}
use Rattle.c_cells.specs.declared.vt_cell.VtCell.{VtCell}
use Rattle.machine_c.proofs.shown_cells.are_plain.Goals as goal

pub loop-i-preserved : goal.loop-i-preserved
loop-i-preserved c =
    let none : VtCell = record { code = 0; attr = 0; spare = [] } in
    All-more HasNoSpare c.args.cells.now c.loop-i.i none c.loop-i-test.true c.loop-i.invariant
    (c.is_plain.ensures.0 c.if-not-is_plain.false)

pub returns-clause-yes : goal.returns-clause-yes
returns-clause-yes c = λ yes.
    subst (λ (cells : List VtCell). All HasNoSpare cells) (take_all c.loop-i.i c.args.cells.now c.loop-i-test.false)
    c.loop-i.invariant
