use Rattle.std.proofs.Common.{◌≡◌, ℕ, ◌+◌, ◌-◌, sym, ap, ◌∙◌}
use Rattle.std.specs.List.{find, range_with_len}
use Rattle.vt_switch.specs.Display.{is_allocated}
use Rattle.vt_world.specs.State.{WorldState}
use Rattle.vt_world.proofs.Requests.{found_first, found_second}
use Rattle.vt_world.proofs.world.World.above.Goals as goal

pub returns-in-Some : goal.returns-in-Some
returns-in-Some c =
    let p = is_allocated c.args.self.now.display in
    let front : c.get-front.result ≡ c.args.self.now.display.front =
    c.get-front.ensures.same ∙ c.front.ensures.front
    ∙ ap (λ (w : WorldState). w.display.front) c.self.view_is in
    found_first p _ _ c.in-Some.c
    (ap (λ (f : ℕ). find p (range_with_len (f + 1) (63 - f))) (sym front) ∙ sym c.in-Some.ensures)

pub returns-in-None : goal.returns-in-None
returns-in-None c =
    let p = is_allocated c.args.self.now.display in
    let front : c.get-front.result ≡ c.args.self.now.display.front =
    c.get-front.ensures.same ∙ c.front.ensures.front
    ∙ ap (λ (w : WorldState). w.display.front) c.self.view_is in
    found_second p _ _ c.lowest-in-None.result
    (ap (λ (f : ℕ). find p (range_with_len (f + 1) (63 - f))) (sym front) ∙ sym c.in-None.ensures)
    (c.lowest-in-None.ensures ∙ ap (λ (f : ℕ). find p (range_with_len 1 f)) front)
