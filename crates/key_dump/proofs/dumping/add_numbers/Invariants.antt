use Rattle.key_tables.specs.Tables.{exists_in}
use Rattle.key_dump.proofs.Adding.{AreNumbered}
use Rattle.key_dump.proofs.dumping.add_numbers.Given as goal

abbrev pub invariant-loop-t : goal.invariant-loop-t
invariant-loop-t l = AreNumbered (exists_in l.tables) l.initial.text.bytes l.text.bytes l.some l.t
