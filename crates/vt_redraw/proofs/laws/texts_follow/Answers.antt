use Rattle.vt_redraw.proofs.for_laws.Alike.{texts_follow}
use Rattle.vt_redraw.proofs.laws.texts_follow.Goals as goal

pub returns : goal.returns
returns c = texts_follow
