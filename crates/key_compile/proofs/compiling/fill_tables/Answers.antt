use Rattle.key_compile.proofs.Whole.{finish, pairs_fit}
use Rattle.key_compile.proofs.compiling.fill_tables.Goals as goal

pub set_pairs-requires : goal.set_pairs-requires
set_pairs-requires c = pairs_fit c.args.lines.now c.args.pairs.now c.requires.pairs c.requires.good

pub returns : goal.returns
returns c =
    finish c.args.lines.now c.args.union.now c.args.pairs.now c.args.tables.now c.put_lines.new.tables c.put_alt.new.tables c.put_strings.new.tables c.set_pairs.new.self
    c.requires.start c.requires.union c.put_lines.ensures c.put_alt.ensures c.put_strings.ensures c.set_pairs.ensures c.requires.pairs c.stays_whole.ensures
