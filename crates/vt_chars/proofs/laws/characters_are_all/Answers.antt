use Rattle.vt_chars.proofs.for_laws.Cutting.{characters_are_all}
use Rattle.vt_chars.proofs.laws.characters_are_all.Goals as goal

pub returns : goal.returns
returns c = characters_are_all
