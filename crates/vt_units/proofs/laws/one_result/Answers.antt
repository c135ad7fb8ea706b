use Rattle.vt_chars.proofs.Stated.{unfinished_begins}
use Rattle.vt_units.proofs.for_laws.Cutting.{cut_runs}
use Rattle.vt_units.specs.Laws.{event_effects}
use Rattle.vt_units.proofs.laws.one_result.Goals as goal

pub returns : goal.returns
returns c = λ mode_of keeps at bytes after rest cut.
    cut_runs (event_effects mode_of) unfinished_begins keeps at bytes after rest cut
