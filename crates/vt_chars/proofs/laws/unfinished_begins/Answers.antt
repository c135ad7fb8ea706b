use Rattle.vt_chars.proofs.Prefixes.{unfinished_begins}
use Rattle.vt_chars.proofs.laws.unfinished_begins.Goals as goal

pub returns : goal.returns
returns c = unfinished_begins
