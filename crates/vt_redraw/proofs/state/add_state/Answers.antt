use Rattle.std.proofs.Common.{◌≡◌, List, ℕ, ◌++◌, ap, ◌∙◌}
use Rattle.vt_grid.specs.Grid.{GridView}
use Rattle.vt_redraw.proofs.Joins.{joined}
use Rattle.vt_redraw.specs.State.{cursor_text, modes_text, palette_text, pen_text, region_text, saved_text, stops_text}
use Rattle.vt_canvas.specs.Screen.{Screen}
use Rattle.vt_canvas.specs.declared.screen_state.ScreenState.{ScreenState}
use Rattle.vt_redraw.proofs.state.add_state.Goals as goal

pub returns : goal.returns
returns c =
    let s : Screen = c.args.emu.now.state in
    let v : ScreenState = s.state in
    let state : c.state-s.result.now ≡ v = c.state-s.ensures.state in
    let cols : c.size.result.cols ≡ s.grid.cols = c.size.ensures.cols ∙ ap (λ (g : GridView). g.cols) c.grid-2.ensures.cells in
    let b0 : List ℕ = c.args.text.now.bytes in
    let b1 : List ℕ = c.add_stops.new.text.bytes in
    let b2 : List ℕ = c.add_saved.new.text.bytes in
    let b3 : List ℕ = c.add_region.new.text.bytes in
    let b4 : List ℕ = c.add_cursor.new.text.bytes in
    let b5 : List ℕ = c.add_pen.new.text.bytes in
    let b6 : List ℕ = c.add_palette.new.text.bytes in
    let b7 : List ℕ = c.add_modes.new.text.bytes in
    let t1 : List ℕ = stops_text s.grid.cols v.stops in
    let t2 : List ℕ = saved_text v.saved in
    let t3 : List ℕ = region_text v in
    let t4 : List ℕ = cursor_text s in
    let t5 : List ℕ = pen_text v in
    let t6 : List ℕ = palette_text v.palette in
    let t7 : List ℕ = modes_text v in
    let e1 : b1 ≡ b0 ++ t1 = c.in_ok-add_stops.ensures ∙ (λ i. b0 ++ stops_text (cols i) (state i).stops) in
    let e2 : b2 ≡ b1 ++ t2 = c.in_ok-add_saved.ensures ∙ ap (λ (w : ScreenState). b1 ++ saved_text w.saved) state in
    let e3 : b3 ≡ b2 ++ t3 = c.in_ok-add_region.ensures ∙ ap (λ (w : ScreenState). b2 ++ region_text w) state in
    let e4 : b4 ≡ b3 ++ t4 = c.in_ok-add_cursor.ensures in
    let e5 : b5 ≡ b4 ++ t5 = c.in_ok-add_pen.ensures ∙ ap (λ (w : ScreenState). b4 ++ pen_text w) state in
    let e6 : b6 ≡ b5 ++ t6 = c.in_ok-add_palette.ensures ∙ ap (λ (w : ScreenState). b5 ++ palette_text w.palette) state in
    let e7 : b7 ≡ b6 ++ t7 = c.in_ok-add_modes.ensures ∙ ap (λ (w : ScreenState). b6 ++ modes_text w) state in
    let f6 : b7 ≡ b5 ++ (t6 ++ t7) = joined b5 t6 t7 b6 b7 e6 e7 in
    let f5 : b7 ≡ b4 ++ (t5 ++ (t6 ++ t7)) = joined b4 t5 (t6 ++ t7) b5 b7 e5 f6 in
    let f4 : b7 ≡ b3 ++ (t4 ++ (t5 ++ (t6 ++ t7))) = joined b3 t4 (t5 ++ (t6 ++ t7)) b4 b7 e4 f5 in
    let f3 : b7 ≡ b2 ++ (t3 ++ (t4 ++ (t5 ++ (t6 ++ t7)))) = joined b2 t3 (t4 ++ (t5 ++ (t6 ++ t7))) b3 b7 e3 f4 in
    let f2 : b7 ≡ b1 ++ (t2 ++ (t3 ++ (t4 ++ (t5 ++ (t6 ++ t7))))) = joined b1 t2 (t3 ++ (t4 ++ (t5 ++ (t6 ++ t7)))) b2 b7 e2 f3 in
    joined b0 t1 (t2 ++ (t3 ++ (t4 ++ (t5 ++ (t6 ++ t7))))) b1 b7 e1 f2
