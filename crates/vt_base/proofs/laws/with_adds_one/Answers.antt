use Rattle.vt_base.proofs.Signals.{with_adds_one}
use Rattle.vt_base.proofs.laws.with_adds_one.Goals as goal

pub returns : goal.returns
returns c = with_adds_one
