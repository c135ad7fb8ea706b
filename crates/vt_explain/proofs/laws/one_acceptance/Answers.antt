use Rattle.vt_explain.proofs.Stated.{one_acceptance}
use Rattle.vt_explain.proofs.laws.one_acceptance.Goals as goal

pub returns : goal.returns
returns c = one_acceptance
