use Rattle.vt_check.proofs.VerdictLaws.{legal_is_right, one_verdict, verdict_is_right}
use Rattle.vt_check.proofs.laws.one_verdict.Goals as goal

pub returns : goal.returns
returns c = record { one = one_verdict; legal = legal_is_right; right = verdict_is_right }
