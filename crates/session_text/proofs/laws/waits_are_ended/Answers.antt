use Rattle.session_text.proofs.for_laws.Waits.{waits_are_ended}
use Rattle.session_text.proofs.laws.waits_are_ended.Goals as goal

pub returns : goal.returns
returns c = waits_are_ended
