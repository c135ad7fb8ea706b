use Rattle.session_text.proofs.Walks.{starts}
use Rattle.session_text.proofs.walk.Walk.start.Goals as goal

pub returns : goal.returns
returns c = λ p. starts p c.empty.result c.empty.ensures
