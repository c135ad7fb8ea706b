use Rattle.vt_chars.proofs.Stated.{unfinished_begins}
use Rattle.vt_units.proofs.for_laws.Cutting.{text_cut}
use Rattle.vt_units.specs.Laws.{event_effects}
use Rattle.vt_units.proofs.laws.texts_are_cut.Goals as goal

pub returns : goal.returns
returns c = λ mode_of keeps at bytes rest.
    text_cut (event_effects mode_of) unfinished_begins keeps at bytes rest
