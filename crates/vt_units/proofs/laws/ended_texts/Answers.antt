use Rattle.vt_units.proofs.Runs.{characters_end, sequences_end, strings_end}
use Rattle.vt_units.proofs.laws.ended_texts.Goals as goal

pub returns-clause-characters : goal.returns-clause-characters
returns-clause-characters c = characters_end

pub returns-clause-sequences : goal.returns-clause-sequences
returns-clause-sequences c = sequences_end

pub returns-clause-strings : goal.returns-clause-strings
returns-clause-strings c = strings_end
