use Rattle.vt_events.proofs.Calls.{parts-plain}
use Rattle.vt_events.proofs.laws.parts_make_the_call.Goals as goal

pub returns : goal.returns
returns c = parts-plain
