use Rattle.std.proofs.Common.{◌/◌}
use Rattle.vt_cells.proofs.Blocks.{flag_is}
use Rattle.vt_cells.proofs.plain.is_plain.Goals as goal

pub returns-then-block-lt160 : goal.returns-then-block-lt160
returns-then-block-lt160 c = flag_is (c.args.code / 64) c.if-block-lt160.true
