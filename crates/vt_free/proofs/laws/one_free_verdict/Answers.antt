use Rattle.vt_free.proofs.VerdictLaws.{legal_is_free, one_verdict}
use Rattle.vt_free.proofs.laws.one_free_verdict.Goals as goal

pub returns : goal.returns
returns c = record { one = one_verdict; legal = legal_is_free }
