use Rattle.std.proofs.Common.{◌++◌, List, ap, ◌∙◌, arith, length, length-drop}
use Rattle.std.proofs.lemmas.List.{take_rest}
use Rattle.vt_screen.proofs.Feeds.{runs_on}
use Rattle.vt_screen.specs.Run.{outs_of_option}
use Rattle.vt_canvas.specs.declared.out.Out.{Out}
use Rattle.vt_screen.proofs.emu.Emu.feed.Goals as goal

pub loop-at-preserved : goal.loop-at-preserved
loop-at-preserved c =
    let next =
    runs_on c.args.b.now c.loop-at.at c.take_prefix-at.result c.args.self.now c.loop-at.self c.take_prefix-at.new.self
    c.take_prefix-at.new.said c.loop-at.invariant.done c.take_prefix-at.ensures.ran in
    record {
      within = omega (arith, c.take_prefix-at.ensures.ran.0, ap length (take_rest c.args.b.now c.loop-at.at), length-drop c.loop-at.at c.args.b.now);
      few = omega (arith, c.take_prefix-at.ensures.some, c.say.ensures.few, c.loop-at.invariant.few);
      done = next.0;
      outs =
          c.say.ensures.said
          ∙ ap (λ (outs : List Out). outs ++ outs_of_option c.take_prefix-at.new.said) c.loop-at.invariant.outs
          ∙ next.1;
    }
