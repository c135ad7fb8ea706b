use Rattle.vt_tool.proofs.Stated.{one_review}
use Rattle.vt_tool.proofs.laws.one_review.Goals as goal

pub returns : goal.returns
returns c = one_review
