use Rattle.std.proofs.Common.{nat_lt, cond, None, arith}
use Rattle.key_compile.specs.Strings.{usual_string}
use Rattle.key_compile.proofs.Texts.{texts_same, usual_all}
use Rattle.key_compile.proofs.strings.put_usual_strings.Goals as goal

pub returns : goal.returns
returns c =
    texts_same (λ j. cond (nat_lt j c.loop-i.i) (usual_string j) None) usual_string c.args.tables.now c.loop-i.tables (usual_all c.loop-i.i (omega arith)) c.loop-i.invariant
