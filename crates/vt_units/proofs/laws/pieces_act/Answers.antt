use Rattle.vt_chars.proofs.Stated.{unfinished_begins}
use Rattle.vt_units.proofs.Runs.{piece_acts, piece_resumes}
use Rattle.vt_units.specs.Laws.{event_effects}
use Rattle.vt_units.proofs.laws.pieces_act.Goals as goal

pub returns-clause-fresh : goal.returns-clause-fresh
returns-clause-fresh c = λ mode_of events rest bytes nothing.
    piece_acts (event_effects mode_of) unfinished_begins bytes events rest nothing

pub returns-clause-resumed : goal.returns-clause-resumed
returns-clause-resumed c = λ mode_of events rest bytes is.
    piece_resumes (event_effects mode_of) unfinished_begins bytes events rest is
