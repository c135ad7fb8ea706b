use Rattle.call_bytes.proofs.for_laws.KeptBytes.{colours_kept, pairs_kept, words_kept}
use Rattle.call_bytes.proofs.laws.adds_what_was_read.Goals as goal

pub returns-clause-pairs : goal.returns-clause-pairs
returns-clause-pairs c = pairs_kept

pub returns-clause-words : goal.returns-clause-words
returns-clause-words c = words_kept

pub returns-clause-colours : goal.returns-clause-colours
returns-clause-colours c = colours_kept
