use Rattle.vt_tool.proofs.Stated.{one_accept}
use Rattle.vt_tool.proofs.laws.one_accept.Goals as goal

pub returns : goal.returns
returns c = one_accept
