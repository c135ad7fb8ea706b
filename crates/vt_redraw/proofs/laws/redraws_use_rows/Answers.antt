use Rattle.vt_redraw.proofs.for_laws.Parts.{redraws_use_rows}
use Rattle.vt_redraw.proofs.laws.redraws_use_rows.Goals as goal

pub returns : goal.returns
returns c = redraws_use_rows
