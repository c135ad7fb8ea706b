use Rattle.std.proofs.Common.{◌≡◌, ℕ, List, take, drop, sym, ap, ◌∙◌}
use Rattle.std.proofs.lemmas.List.{take_rest, take-append-drop}
use Rattle.vt_screen.proofs.Cuts.{cuts}
use Rattle.vt_screen.specs.Run.{ScreenAndOuts, after}
use Rattle.vt_canvas.specs.Screen.{Screen}
use Rattle.vt_units.specs.Run.{Reached, make_reached}
use Rattle.vt_screen.proofs.emu.Emu.write.Goals as goal

pub loop-rest-preserved : goal.loop-rest-preserved
loop-rest-preserved c =
    let n : ℕ = c.take_prefix-count.result in
    let rest : List ℕ = c.loop-rest.rest.now in
    let old : Reached Screen = c.loop-rest.self in
    let done : after old (take n rest) ≡ c.take_prefix-count.new.self =
    ap (λ (m : Reached ScreenAndOuts). make_reached m.state.screen m.rest) c.take_prefix-count.ensures.ran.1 in
    ap (after c.take_prefix-count.new.self) (take_rest rest n)
    ∙ ap (λ (m : Reached Screen). after m (drop n rest)) (sym done)
    ∙ sym (cuts old (take n rest) (drop n rest)).0
    ∙ ap (after old) (take-append-drop n rest)
    ∙ c.loop-rest.invariant
