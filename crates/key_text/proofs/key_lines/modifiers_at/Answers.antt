use Rattle.std.proofs.Common.{sym}
use Rattle.key_text.proofs.Symbols.{modifiers_more}
use Rattle.key_text.proofs.key_lines.modifiers_at.Goals as goal

pub loop-turn-preserved : goal.loop-turn-preserved
loop-turn-preserved c =
    modifiers_more c.args.weight c.args.end c.args.items.now c.loop-turn.table c.loop-turn.rest.now c.loop-turn._turn c.loop-turn.invariant c.loop-turn-test.true _ _ c.in_ok-word.ensures (sym c.in-Some.ensures)
