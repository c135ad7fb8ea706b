use Rattle.session_text.proofs.WhosePrograms.{callers_have_programs}
use Rattle.session_text.proofs.laws.callers_have_programs.Goals as goal

pub returns : goal.returns
returns c = callers_have_programs
