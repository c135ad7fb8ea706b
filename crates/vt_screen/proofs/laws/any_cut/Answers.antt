use Rattle.vt_screen.proofs.Cuts.{cuts}
use Rattle.vt_screen.proofs.laws.any_cut.Goals as goal

pub returns : goal.returns
returns c = cuts
