use Rattle.std.proofs.Common.{◌++◌, List, ap, ◌∙◌, arith}
use Rattle.vt_screen.proofs.Feeds.{byte_run, runs_on}
use Rattle.vt_screen.specs.Run.{outs_of_option}
use Rattle.vt_canvas.specs.declared.out.Out.{Out}
use Rattle.vt_screen.proofs.emu.Emu.feed_plainly.Goals as goal

pub loop-byte-preserved : goal.loop-byte-preserved
loop-byte-preserved c =
    let next =
    runs_on c.args.b.now c.loop-byte.byte-index 1 c.args.self.now c.loop-byte.self c.take.new.self c.take.new.said
    c.loop-byte.invariant.done
    (byte_run c.args.b.now c.loop-byte.byte-index c.loop-byte.self c.take.new.self c.take.new.said c.loop-byte-test.true c.take.ensures) in
    record {
      few = omega (arith, c.say.ensures.few, c.loop-byte.invariant.few);
      done = next.0;
      outs =
          c.say.ensures.said
          ∙ ap (λ (outs : List Out). outs ++ outs_of_option c.take.new.said) c.loop-byte.invariant.outs
          ∙ next.1;
    }
