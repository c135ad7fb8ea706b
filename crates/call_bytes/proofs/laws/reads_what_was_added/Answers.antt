use Rattle.call_bytes.proofs.for_laws.Again.{colours_again, pairs_again, words_again}
use Rattle.call_bytes.proofs.laws.reads_what_was_added.Goals as goal

pub returns-clause-pairs : goal.returns-clause-pairs
returns-clause-pairs c = pairs_again

pub returns-clause-words : goal.returns-clause-words
returns-clause-words c = words_again

pub returns-clause-colours : goal.returns-clause-colours
returns-clause-colours c = colours_again
