use Rattle.std.proofs.Common.{arith}
use Rattle.key_compile.proofs.Alt.{metas_more, metas_start, metas_table}
use Rattle.key_compile.proofs.metas.put_metas_of.Goals as goal

pub loop-c-init : goal.loop-c-init
loop-c-init c = metas_start c.args.tables.now c.args.t

pub loop-c-preserved : goal.loop-c-preserved
loop-c-preserved c =
    metas_more c.args.tables.now c.loop-c.tables c.put_meta.new.tables c.args.t c.loop-c.c (omega arith) (omega arith) c.loop-c.invariant c.put_meta.ensures

pub returns : goal.returns
returns c = metas_table c.args.tables.now c.loop-c.tables c.args.t c.loop-c.c (omega arith) c.loop-c.invariant
