use Rattle.key_text.proofs.for_laws.LikeReading.{words_decide}
use Rattle.key_text.proofs.laws.words_decide.Goals as goal

pub returns : goal.returns
returns c = words_decide
