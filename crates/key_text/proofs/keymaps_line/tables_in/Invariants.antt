use Rattle.std.proofs.Common.{length}
use Rattle.key_text.proofs.Marks.{AreRanged}
use Rattle.key_text.proofs.keymaps_line.tables_in.Given as goal

abbrev pub invariant-pieces : goal.invariant-pieces
invariant-pieces l = AreRanged l.word l.text l.tables.items l.rest

abbrev pub decreases-pieces : goal.decreases-pieces
decreases-pieces l = length l.rest
