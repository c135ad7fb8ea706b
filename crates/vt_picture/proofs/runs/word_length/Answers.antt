use Rattle.std.proofs.Common.{◌≡◌, ℕ, ◌-◌, List, false, length, take, subst, arith}
use Rattle.std.proofs.lemmas.Grind.{common_steps}
use Rattle.std.proofs.lemmas.List.{length-take-le}
use Rattle.vt_cells.specs.declared.cell.Cell.{Cell}
use Rattle.vt_grid.specs.Grid.{row_at}
use Rattle.vt_picture.specs.Runs.{are_alike}
use Rattle.vt_picture.proofs.Groups.{JoinedFrom, first_joined, group_before, group_last}
use Rattle.vt_picture.proofs.Texts.{row_long, slice_take}
use Rattle.vt_picture.proofs.runs.word_length.Goals as goal

pub returns-then-not-are_alike-clause-word : goal.returns-then-not-are_alike-clause-word
returns-then-not-are_alike-clause-word c =
    let row : List Cell = row_at c.args.g.now c.args.y in
    let end : ℕ = c.args.end in
    let next : ℕ = c.loop-next.next in
    let wide : length row ≡ c.args.g.now.cols = row_long c.args.g.now c.args.y c.stays_full.ensures.full c.requires.row in
    let long : length (take end row) ≡ end = length-take-le end row (omega arith) in
    let no : are_alike c.at.result c.at-in-loop-next.result ≡ false = grind (arith, common_steps) in
    group_before are_alike (take end row) c.args.x (next - 1) next c.at.result c.at-in-loop-next.result
    (omega arith) (omega arith) (omega arith) (first_joined are_alike row c.args.x end next c.loop-next.invariant)
    (slice_take row end (next - 1) c.at.result (omega arith) c.at.ensures)
    (slice_take row end next c.at-in-loop-next.result (omega arith) c.at-in-loop-next.ensures) no

pub returns-clause-word : goal.returns-clause-word
returns-clause-word c =
    let row : List Cell = row_at c.args.g.now c.args.y in
    let end : ℕ = c.args.end in
    let wide : length row ≡ c.args.g.now.cols = row_long c.args.g.now c.args.y c.stays_full.ensures.full c.requires.row in
    let long : length (take end row) ≡ end = length-take-le end row (omega arith) in
    let same : c.loop-next.next ≡ end = omega arith in
    group_last are_alike (take end row) c.args.x (end - 1) end (omega arith) (omega arith) (omega arith)
    (first_joined are_alike row c.args.x end end (subst (JoinedFrom are_alike row c.args.x) same c.loop-next.invariant))
