use Rattle.key_compile.proofs.Alt.{alt_more, alt_start}
use Rattle.key_compile.proofs.metas.put_metas.Goals as goal

pub loop-t-init : goal.loop-t-init
loop-t-init c = alt_start c.args.tables.now

pub loop-t-preserved : goal.loop-t-preserved
loop-t-preserved c =
    alt_more c.args.tables.now c.loop-t.tables c.put_metas_of.new.tables c.loop-t.t c.loop-t-test.true c.loop-t.invariant c.put_metas_of.ensures
