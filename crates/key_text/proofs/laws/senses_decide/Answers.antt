use Rattle.key_text.proofs.for_laws.SameSenses.{senses_decide}
use Rattle.key_text.proofs.laws.senses_decide.Goals as goal

pub returns : goal.returns
returns c = senses_decide
