use Rattle.key_text.proofs.Symbols.{AreModifiers}
use Rattle.key_text.proofs.key_lines.modifiers_at.Given as goal

abbrev pub invariant-loop-turn : goal.invariant-loop-turn
invariant-loop-turn l = AreModifiers l.weight l.end l.items l.table l.rest l._turn
