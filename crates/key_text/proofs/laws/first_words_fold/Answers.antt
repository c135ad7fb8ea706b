use Rattle.key_text.proofs.for_laws.FirstWords.{first-words_fold}
use Rattle.key_text.proofs.laws.first_words_fold.Goals as goal

pub returns : goal.returns
returns c = first-words_fold
