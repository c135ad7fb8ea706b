use Rattle.vt_tool.proofs.Stated.{one_check}
use Rattle.vt_tool.proofs.laws.one_check.Goals as goal

pub returns : goal.returns
returns c = one_check
