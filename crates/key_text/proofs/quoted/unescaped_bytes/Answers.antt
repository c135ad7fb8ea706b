use Rattle.std.proofs.Common.{sym}
use Rattle.key_text.proofs.Unescaping.{unescaped_more, unescaped_stops}
use Rattle.key_text.proofs.quoted.unescaped_bytes.Goals as goal

pub loop-turn-preserved : goal.loop-turn-preserved
loop-turn-preserved c =
    unescaped_more c.args.text.now c.loop-turn.bytes.items c.loop-turn.rest.now c.loop-turn._turn c.loop-turn.invariant c.loop-turn-test.true
    _ _ c.in-Some.ensures.cases.0 _ _ (sym c.in-Some-first_of.ensures.value) c.in-Some-first_of.ensures.within _ c.in_ok-push-in-Some-first_of.ensures.items

pub returns-in-None-first_of : goal.returns-in-None-first_of
returns-in-None-first_of c =
    sym (unescaped_stops c.args.text.now c.loop-turn.bytes.items c.loop-turn.rest.now c.loop-turn._turn c.loop-turn.invariant c.loop-turn-test.true
    _ _ c.in-Some.ensures.cases.0 (sym c.in-None-first_of.ensures.value))
