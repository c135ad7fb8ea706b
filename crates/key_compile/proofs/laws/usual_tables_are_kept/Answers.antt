use Rattle.key_compile.proofs.Texts.{pairs_usual, rows_usual}
use Rattle.key_compile.proofs.laws.usual_tables_are_kept.Goals as goal

pub returns-clause-strings : goal.returns-clause-strings
returns-clause-strings c = rows_usual

pub returns-clause-pairs : goal.returns-clause-pairs
returns-clause-pairs c = pairs_usual
