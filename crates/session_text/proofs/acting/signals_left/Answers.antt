use Rattle.std.proofs.Common.{◌+◌, sym, subst}
use Rattle.session_text.proofs.LeftSignals.{AreLeftBelow, left_more}
use Rattle.session_text.proofs.acting.signals_left.Goals as goal

pub loop-at-preserved : goal.loop-at-preserved
loop-at-preserved g c =
    let table = g.H.Asks.acts c.args.hooks.now in
    subst (λ n. AreLeftBelow table c.args.given c.args.from (n + 1) c.with_call-left.result) (sym c.get-at.ensures.same)
    (subst (λ left. AreLeftBelow table c.args.given c.args.from (c.in-Some.signal + 1) left)
    (sym c.with_call-left.ensures)
    (left_more table c.args.given c.args.from c.loop-at.at c.in-Some.signal c.loop-at.left c.ask_for.result
    c.with_adds_one.ensures c.requires c.loop-at.invariant c.in-Some.ensures.found c.ask_for.ensures))
