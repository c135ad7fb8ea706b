use Rattle.session_text.proofs.HookWords.{hooks_fault, hooks_more}
use Rattle.session_text.proofs.Saying.{reads_err}
use Rattle.session_text.proofs.hooks.hooks.Goals as goal

pub returns-in-Err : goal.returns-in-Err
returns-in-Err c =
    reads_err c.in-Err.e _ _
    (λ f said.
    c.loop-i.invariant _
    (hooks_fault c.args.part c.loop-i.i c.place.result c.loop-i.hooked c.args.texts.now _
    c.loop-i-test.true c.place.ensures f said))
    c.in-Err.ensures

pub loop-i-preserved : goal.loop-i-preserved
loop-i-preserved c =
    λ said rest.
    c.loop-i.invariant said
    (hooks_more c.args.part c.loop-i.i c.place.result c.loop-i.hooked c.in-Ok.after c.args.texts.now _
    c.loop-i-test.true c.place.ensures c.in-Ok.ensures said rest)
