use Rattle.vt_chars.proofs.for_laws.Cutting.{ascii_cuts}
use Rattle.vt_chars.proofs.laws.ascii_cuts.Goals as goal

pub returns : goal.returns
returns c = ascii_cuts
