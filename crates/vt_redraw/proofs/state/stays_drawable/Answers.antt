use Rattle.std.proofs.Common.{◌≡◌, ◌≤◌, true, ap, arith}
use Rattle.std.specs.List.{list_all}
use Rattle.std.proofs.lemmas.Bool.{and_parts}
use Rattle.vt_grid.specs.Grid.{GridView}
use Rattle.vt_redraw.proofs.for_laws.Redrawing.{IsState, state_parts}
use Rattle.vt_redraw.specs.Drawable.{is_redrawable, is_row_drawable, is_state_drawable}
use Rattle.vt_canvas.specs.Screen.{Screen}
use Rattle.vt_redraw.proofs.state.stays_drawable.Goals as goal

drawable : (s : Screen) → is_redrawable s ≡ true → IsState s.grid.rows s.grid.cols s.state
unfolding is_redrawable
drawable s is =
    state_parts s.grid.rows s.grid.cols s.state
    (and_parts (list_all is_row_drawable s.grid.cells) (is_state_drawable s.grid.rows s.grid.cols s.state) is).1

pub returns : goal.returns
returns c =
    let s : Screen = c.args.emu.now.state in
    let is : IsState s.grid.rows s.grid.cols s.state = drawable s c.requires in
    let rows : s.grid.rows ≤ 255 = omega (arith, c.stays_full.ensures.rows, ap (λ (g : GridView). g.rows) c.grid.ensures.cells) in
    let cols : s.grid.cols ≤ 255 = omega (arith, c.stays_full.ensures.cols, ap (λ (g : GridView). g.cols) c.grid.ensures.cells) in
    record {
      saved_row = omega (arith, rows, is.saved_row);
      saved_column = omega (arith, cols, is.saved_column);
      inside = λ on. (is.inside on).0;
    }
