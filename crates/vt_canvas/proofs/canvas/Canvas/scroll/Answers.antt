use Rattle.std.proofs.Common.{◌≡◌, ◌-◌, ℕ, suc, false, arith, cond, sym, ap, ◌∙◌}
use Rattle.vt_cells.specs.declared.cell.Cell.{Cell}
use Rattle.vt_grid.specs.Grid.{scrolled_up}
use Rattle.vt_canvas.proofs.Scrolled.{all_at_once}
use Rattle.vt_canvas.specs.Cursor.{newlines}
use Rattle.vt_canvas.specs.Screen.{IsWhole, Screen, blank_of}
use Rattle.vt_canvas.proofs.canvas.Canvas.scroll.Goals as goal

pub returns : goal.returns
returns c =
    let now : Screen = c.args.self.now in
    let v : Screen = record { grid = c.self.inside.grid; state = c.self.inside.state } in
    let seen : v ≡ now = c.self.view_is in
    let whole : IsWhole v = c.self.invariant.whole in
    let k : ℕ = c.args.count - 1 in
    let full : suc k ≡ c.args.count = omega (arith, c.requires.some) in
    let last : v.state.y ≡ v.state.bottom =
    ap (λ (s : Screen). s.state.y) seen ∙ c.requires.scrolls
    ∙ sym (ap (λ (s : Screen). s.state.bottom) seen) in
    let rows : c.scroll_up.new.self ≡ scrolled_up v.grid v.state.top v.state.bottom (suc k) (blank_of v) =
    c.scroll_up.ensures
    ∙ ap (λ (cell : Cell). scrolled_up v.grid v.state.top v.state.bottom c.args.count cell)
    (c.blank-blank.ensures.blank ∙ ap blank_of (sym seen))
    ∙ ap (λ (n : ℕ). scrolled_up v.grid v.state.top v.state.bottom n (blank_of v)) (sym full) in
    let column : c.line_start-self-inside.result ≡ cond v.state.newline 0 v.state.x =
    c.line_start-self-inside.ensures.column
    ∙ ap (λ (s : Screen). cond s.state.newline 0 s.state.x) (sym seen) in
    (λ i. record { grid = rows i; state = record v.state { x = column i; wrap = false } })
    ∙ sym (all_at_once k v last whole.full.tall whole.order whole.region)
    ∙ ap (λ (n : ℕ). newlines n v) full
    ∙ ap (newlines c.args.count) seen
