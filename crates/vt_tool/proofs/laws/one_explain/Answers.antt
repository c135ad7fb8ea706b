use Rattle.vt_tool.proofs.Stated.{one_explain}
use Rattle.vt_tool.proofs.laws.one_explain.Goals as goal

pub returns : goal.returns
returns c = one_explain
