use Rattle.key_compile.specs.Union.{names_table}
use Rattle.key_compile.proofs.Marking.{marked_none}
use Rattle.key_compile.proofs.union.named_tables.Goals as goal

pub loop-i-init : goal.loop-i-init
loop-i-init c = marked_none names_table c.args.lines.now c.in_ok-marks.marks.items c.in_ok-marks.ensures
