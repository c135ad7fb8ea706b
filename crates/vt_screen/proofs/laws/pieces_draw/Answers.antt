use Rattle.std.proofs.Common.{[]}
use Rattle.vt_chars.proofs.Stated.{unfinished_begins}
use Rattle.vt_screen.specs.Run.{screen_effects}
use Rattle.vt_units.proofs.Runs.{piece_acts, piece_resumes}
use Rattle.vt_screen.proofs.laws.pieces_draw.Goals as goal

pub returns-clause-fresh : goal.returns-clause-fresh
returns-clause-fresh c =
    λ m bytes nothing.
    piece_acts screen_effects unfinished_begins bytes (record { screen = m.state; outs = [] }) m.rest nothing

pub returns-clause-resumed : goal.returns-clause-resumed
returns-clause-resumed c =
    λ m bytes begun.
    piece_resumes screen_effects unfinished_begins bytes (record { screen = m.state; outs = [] }) m.rest begun
