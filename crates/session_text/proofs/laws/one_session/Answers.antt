use Rattle.session_text.proofs.Stated.{one_session}
use Rattle.session_text.proofs.laws.one_session.Goals as goal

pub returns : goal.returns
returns c = one_session
