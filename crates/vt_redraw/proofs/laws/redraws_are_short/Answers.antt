use Rattle.vt_redraw.proofs.for_laws.Lengths.{redraws_are_short}
use Rattle.vt_redraw.proofs.laws.redraws_are_short.Goals as goal

pub returns : goal.returns
returns c = redraws_are_short
