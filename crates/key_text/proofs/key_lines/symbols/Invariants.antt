use Rattle.key_text.proofs.Symbols.{AreSymbols}
use Rattle.key_text.proofs.key_lines.symbols.Given as goal

abbrev pub invariant-loop-turn : goal.invariant-loop-turn
invariant-loop-turn l = AreSymbols l.fn.first l.items l.actions.items l.rest l._turn
