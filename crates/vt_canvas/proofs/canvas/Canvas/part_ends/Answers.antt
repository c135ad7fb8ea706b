use Rattle.std.proofs.Common.{◌≤◌, ◌+◌, ℕ, subst, sym, ap, ◌∙◌, arith}
use Rattle.vt_grid.proofs.Stated.{ends_are_whole}
use Rattle.vt_grid.specs.Grid.{IsFull, GridView}
use Rattle.vt_grid.specs.Halves.{split_wide_at, split_wide_between}
use Rattle.vt_canvas.specs.Erasing.{with_grid}
use Rattle.vt_canvas.specs.Screen.{Screen}
use Rattle.vt_canvas.proofs.canvas.Canvas.part_ends.Goals as goal

pub returns-else-end-from : goal.returns-else-end-from
returns-else-end-from c =
    let s : Screen = record { grid = c.self.inside.grid; state = c.self.inside.state } in
    let y : ℕ = s.state.y in
    let x : ℕ = s.state.x in
    let one : GridView = split_wide_at s.grid y x in
    let full : IsFull one = subst IsFull c.part.ensures c.size.ensures.full in
    let past : one.cols ≤ x + c.args.n = omega (arith, c.size.ensures.cols, ap (λ (t : GridView). t.cols) c.part.ensures) in
    (λ i. record { grid = c.part.ensures i; state = s.state })
    ∙ ap (with_grid s) (sym (ends_are_whole one y (x + c.args.n) full past))
    ∙ ap (λ (t : Screen). with_grid t (split_wide_between t.grid t.state.y t.state.x (t.state.x + c.args.n))) c.self.view_is
