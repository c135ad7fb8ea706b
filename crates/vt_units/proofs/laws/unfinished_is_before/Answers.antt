use Rattle.vt_chars.proofs.Stated.{unfinished_begins}
use Rattle.vt_units.proofs.for_laws.Completes.{unfinished_is_before}
use Rattle.vt_units.proofs.laws.unfinished_is_before.Goals as goal

pub returns : goal.returns
returns c = unfinished_is_before unfinished_begins
