use Rattle.vt_screen.proofs.Falling.{row_cuts}
use Rattle.vt_screen.proofs.laws.any_row_cut.Goals as goal

pub returns : goal.returns
returns c = row_cuts
