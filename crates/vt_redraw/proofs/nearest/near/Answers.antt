use Rattle.std.proofs.Common.{◌≡◌, ◌<◌, ℕ, ap, subst, sym, ◌∙◌, arith}
use Rattle.std.specs.Prelude.{All, IsTrue, map}
use Rattle.vt_canvas.specs.Screen.{IsWhole, Screen}
use Rattle.vt_canvas.specs.declared.screen_state.ScreenState.{ScreenState}
use Rattle.vt_cells.specs.declared.cell.Cell.{Cell}
use Rattle.vt_grid.specs.Grid.{GridView}
use Rattle.vt_redraw.proofs.Stated.{near_is_drawn-drawn}
use Rattle.vt_redraw.proofs.for_laws.Nearby.{near_stored}
use Rattle.vt_redraw.specs.Drawable.{is_redrawable}
use Rattle.vt_redraw.specs.Near.{near, near_row, near_state}
use Rattle.vt_redraw.proofs.nearest.near.Goals as goal

-- the cells and the state that are made are those of the nearest screen
made : (s : Screen) (g shown : GridView) (rows cols : ℕ) (old new : ScreenState) → g ≡ s.grid
    → shown ≡ record g { cells = map near_row g.cells } → rows ≡ s.grid.rows → cols ≡ s.grid.cols → old ≡ s.state
    → new ≡ near_state rows cols old → record { grid = shown; state = new } ≡ near s
made s g shown rows cols old new same cells height width state is =
    let grid = cells ∙ ap (λ (v : GridView). record v { cells = map near_row v.cells }) same in
    let now = is ∙ (λ i. near_state (height i) (width i) (state i)) in
    λ i. record { grid = grid i; state = now i }

pub of-requires : goal.of-requires
of-requires c =
    let s : Screen = c.args.emu.now.state in
    subst IsWhole
    (sym
    (made s c.grid-2.result.now c.in_ok-grid.grid c.size-size.result.rows c.size-size.result.cols c.state.result.now
    c.near_state-state.result c.grid-2.ensures.cells c.in_ok-grid.ensures.cells
    (c.size-size.ensures.rows ∙ ap (λ (g : GridView). g.rows) c.grid.ensures.cells)
    (c.size-size.ensures.cols ∙ ap (λ (g : GridView). g.cols) c.grid.ensures.cells) c.state.ensures.state
    c.near_state-state.ensures))
    (near_stored s c.stays_stored.ensures).whole

pub returns-clause-drawable : goal.returns-clause-drawable
returns-clause-drawable c =
    let s : Screen = c.args.emu.now.state in
    subst (λ (t : Screen). IsTrue (is_redrawable t))
    (sym
    (ap (λ m. m.state) c.of.ensures
    ∙ made s c.grid-2.result.now c.in_ok-grid.grid c.size-size.result.rows c.size-size.result.cols c.state.result.now
    c.near_state-state.result c.grid-2.ensures.cells c.in_ok-grid.ensures.cells
    (c.size-size.ensures.rows ∙ ap (λ (g : GridView). g.rows) c.grid.ensures.cells)
    (c.size-size.ensures.cols ∙ ap (λ (g : GridView). g.cols) c.grid.ensures.cells) c.state.ensures.state
    c.near_state-state.ensures))
    (near_is_drawn-drawn s
    (subst (λ (g : GridView). All (All (λ (d : Cell). d.attr < 256)) g.cells) c.grid-2.ensures.cells c.in_ok-grid.ensures.bytes)
    (omega (arith, c.stays_stored.ensures.whole.row)) (omega (arith, c.stays_stored.ensures.whole.column)))
