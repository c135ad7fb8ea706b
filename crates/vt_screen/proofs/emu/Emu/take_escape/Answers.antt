use Rattle.std.proofs.Common.{subst, ap, ◌∙◌}
use Rattle.vt_screen.proofs.Sequences.{sequence_run}
use Rattle.vt_screen.specs.Run.{HasRun}
use Rattle.vt_canvas.specs.Screen.{Screen}
use Rattle.vt_units.proofs.Stated.{sequences_are_units}
use Rattle.vt_units.specs.declared.unit.Unit.TheVariants.{Esc}
use Rattle.vt_units.specs.Rest.{Rest}
use Rattle.vt_units.specs.Run.{Reached, make_reached}
use Rattle.vt_screen.proofs.emu.Emu.take_escape.Goals as goal

pub returns-in-Some-clause-ran : goal.returns-in-Some-clause-ran
returns-in-Some-clause-ran c =
    sequence_run sequences_are_units c.args.b.now c.args.self.now c.self.inside.canvas c.escape.new.self
    c.self.inside.pending c.take_escape.new.self c.mode.result (record { unit = Esc 0 c.in-Some.last; count = 2 }) c.escape.new.said
    c.self.view_is c.mode.ensures c.in-Some.ensures.sequence c.in-Some.ensures.rest c.escape.ensures

pub returns-in-None-clause-ran : goal.returns-in-None-clause-ran
returns-in-None-clause-ran c =
    subst (λ (old : Reached Screen). HasRun old c.args.b.now c.take_long_sgr.result c.take_long_sgr.new.self c.take_long_sgr.new.said)
    (ap (λ (r : Rest). make_reached c.self.inside.canvas r) c.in-None.ensures.rest ∙ c.self.view_is)
    c.take_long_sgr.ensures.ran
