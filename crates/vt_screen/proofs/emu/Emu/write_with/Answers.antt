use Rattle.std.proofs.Common.{List, length, take, ap, subst, arith, length-drop}
use Rattle.std.proofs.lemmas.List.{take_rest}
use Rattle.vt_screen.proofs.Feeds.{runs_on}
use Rattle.vt_screen.proofs.Hearing.{hears_both}
use Rattle.vt_screen.specs.Hearing.{HearsAll}
use Rattle.vt_screen.specs.Run.{outs_of_option, outs_of_run}
use Rattle.vt_canvas.specs.declared.out.Out.{Out}
use Rattle.vt_screen.proofs.emu.Emu.write_with.Goals as goal

pub loop-at-preserved : goal.loop-at-preserved
loop-at-preserved g c =
    let next =
    runs_on c.args.b.now c.loop-at.at c.take_prefix-at.result c.args.self.now c.loop-at.self c.take_prefix-at.new.self
    c.take_prefix-at.new.said c.loop-at.invariant.done c.take_prefix-at.ensures.ran in
    record {
      within = omega (arith, c.take_prefix-at.ensures.ran.0, ap length (take_rest c.args.b.now c.loop-at.at), length-drop c.loop-at.at c.args.b.now);
      done = next.0;
      heard =
          subst (λ (outs : List Out). HearsAll g.L.Listener.hears c.args.listener.now outs c.tell.new.listener) next.1
          (hears_both g.L.Listener.hears c.args.listener.now c.loop-at.listener c.tell.new.listener
          (outs_of_run c.args.self.now (take c.loop-at.at c.args.b.now)) (outs_of_option c.take_prefix-at.new.said)
          c.loop-at.invariant.heard c.tell.ensures);
    }
