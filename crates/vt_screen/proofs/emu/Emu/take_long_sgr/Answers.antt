use Rattle.std.proofs.Common.{Option, None, sym, subst, ap, ◌∙◌}
use Rattle.vt_screen.proofs.Sequences.{sequence_run}
use Rattle.vt_screen.specs.Run.{HasRun}
use Rattle.vt_canvas.specs.Screen.{Screen}
use Rattle.vt_canvas.specs.declared.out.Out.{Out}
use Rattle.vt_units.proofs.Stated.{sequences_are_units}
use Rattle.vt_units.specs.ShortSequences.{sgr_in}
use Rattle.vt_units.specs.Rest.{Rest}
use Rattle.vt_units.specs.Run.{Reached, make_reached}
use Rattle.vt_screen.proofs.emu.Emu.take_long_sgr.Goals as goal

pub returns-in-Some-clause-ran : goal.returns-in-Some-clause-ran
returns-in-Some-clause-ran c =
    subst (λ (said : Option Out). HasRun c.args.self.now c.args.b.now c.in-Some.longer.count (make_reached c.dispatch_long_sgr.new.self c.take_long_sgr.new.self) said)
    (sym c.clear.ensures)
    (sequence_run sequences_are_units c.args.b.now c.args.self.now c.self.inside.canvas c.dispatch_long_sgr.new.self
    c.self.inside.pending c.take_long_sgr.new.self c.mode.result (sgr_in c.in-Some.longer) None
    c.self.view_is c.mode.ensures c.in-Some.ensures.sequence c.in-Some.ensures.rest c.dispatch_long_sgr.ensures)

pub returns-in-None-clause-ran : goal.returns-in-None-clause-ran
returns-in-None-clause-ran c =
    subst (λ (old : Reached Screen). HasRun old c.args.b.now c.take_sequence.result c.take_sequence.new.self c.take_sequence.new.said)
    (ap (λ (r : Rest). make_reached c.self.inside.canvas r) c.in-None.ensures.rest ∙ c.self.view_is)
    c.take_sequence.ensures.ran
