use Rattle.std.proofs.Common.{◌≡◌, Bool, [], ◌∷◌, sym, ap, ◌∙◌, if◌then◌else◌}
use Rattle.vt_screen.proofs.Controls.{control_run}
use Rattle.vt_screen.specs.Run.{with_outs, outs_of_option, run_from}
use Rattle.vt_canvas.specs.Screen.{Screen}
use Rattle.vt_units.proofs.Stated.{controls_are_units}
use Rattle.vt_units.specs.Rest.{Rest, fresh}
use Rattle.vt_units.specs.Run.{Reached, make_reached}
use Rattle.vt_screen.proofs.emu.Emu.take_quickly.Goals as goal

pub returns : goal.returns
returns c =
    let rest : Rest = c.self.inside.pending in
    let left : c.take_control.new.self ≡ fresh c.mode.result =
    c.take_control.ensures.rest
    ∙ ap (λ (b : Bool). if b then fresh c.mode.result else rest) c.if-not-take_control.false in
    ap (λ (m : Reached Screen). run_from m (c.args.byte ∷ [])) (sym c.self.view_is)
    ∙ control_run controls_are_units c.args.byte c.self.inside.canvas rest c.mode.result
    c.mode.ensures (sym c.take_control.ensures.control ∙ c.if-not-take_control.false)
    (record { screen = c.control.new.self; said = c.control.new.said }) c.control.ensures
    ∙ ap (λ (r : Rest). with_outs (outs_of_option c.control.new.said) (make_reached c.control.new.self r)) (sym left)
