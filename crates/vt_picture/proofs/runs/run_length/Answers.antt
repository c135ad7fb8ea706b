use Rattle.std.proofs.Common.{◌≡◌, ℕ, ◌-◌, List, false, length, subst, arith}
use Rattle.std.proofs.lemmas.Grind.{common_steps}
use Rattle.vt_cells.specs.declared.cell.Cell.{Cell}
use Rattle.vt_grid.specs.Grid.{row_at}
use Rattle.vt_picture.specs.Runs.{are_joined}
use Rattle.vt_picture.proofs.Groups.{JoinedFrom, group_before, group_last}
use Rattle.vt_picture.proofs.Texts.{row_long}
use Rattle.vt_picture.proofs.runs.run_length.Goals as goal

pub returns-then-not-are_joined-clause-run : goal.returns-then-not-are_joined-clause-run
returns-then-not-are_joined-clause-run c =
    let row : List Cell = row_at c.args.g.now c.args.y in
    let next : ℕ = c.loop-next.next in
    let long : length row ≡ c.args.g.now.cols = row_long c.args.g.now c.args.y c.size-cols.ensures.full c.requires.row in
    let no : are_joined c.at.result c.at-in-loop-next.result ≡ false = grind (arith, common_steps) in
    group_before are_joined row c.args.x (next - 1) next c.at.result c.at-in-loop-next.result (omega arith) (omega arith) (omega arith)
    c.loop-next.invariant c.at.ensures c.at-in-loop-next.ensures no

pub returns-clause-run : goal.returns-clause-run
returns-clause-run c =
    let row : List Cell = row_at c.args.g.now c.args.y in
    let cols : ℕ = c.size-cols.result.cols in
    let long : length row ≡ c.args.g.now.cols = row_long c.args.g.now c.args.y c.size-cols.ensures.full c.requires.row in
    let same : c.loop-next.next ≡ cols = omega arith in
    group_last are_joined row c.args.x (cols - 1) cols (omega arith) (omega arith) (omega arith)
    (subst (JoinedFrom are_joined row c.args.x) same c.loop-next.invariant)
