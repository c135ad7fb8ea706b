use Rattle.key_tables.proofs.Entries.{entry_set}
use Rattle.key_tables.proofs.key_tables.KeyTables.set_entry.Goals as goal

pub returns-clause-entries : goal.returns-clause-entries
returns-clause-entries c = λ u d.
    entry_set c.self.inside.maps c.self.inside.funcs.items c.self.inside.pairs.items c.args.self.now c.self.view_is c.self.invariant.0
    c.args.t c.args.c c.args.a c.ranges.t.fits c.ranges.c.fits c.put.new.self c.put.ensures.maps u d
