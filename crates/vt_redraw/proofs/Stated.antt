-- The laws that proofs of functions and of other crates cite, as the functions state them.
use Rattle.std.proofs.Common.{[]}
use Rattle.vt_cells.proofs.Stated.{columns_are_few-most, columns_are_few-worked}
use Rattle.vt_chars.proofs.Stated.{unfinished_begins}
use Rattle.vt_redraw.proofs.for_laws.Nearby.{near_is_drawn}
use Rattle.vt_redraw.proofs.for_laws.Redrawing.{changes-redraw, screens-redraw}
use Rattle.vt_redraw.specs.Near.{NearIsDrawn}
use Rattle.vt_redraw.specs.Redraw.{ChangesRedraw, ScreensRedraw}
use Rattle.vt_screen.specs.Run.{PiecesAct, screen_effects}
use Rattle.vt_units.proofs.Runs.{piece_acts}
use Rattle.vt_units.proofs.Stated.{controls_are_units, printables_are_characters, sequences_are_units}
pub use Rattle.vt_redraw.proofs.for_laws.Lengths.{redraws_are_short}
pub use Rattle.vt_redraw.proofs.for_laws.Nearby.{nothing_is_left_out, screen_stays as near_is_drawn-exact}

pieces_draw : PiecesAct
pieces_draw m bytes nothing =
    piece_acts screen_effects unfinished_begins bytes (record { screen = m.state; outs = [] }) m.rest nothing

pub screens_redraw-screens : ScreensRedraw
screens_redraw-screens =
    screens-redraw sequences_are_units controls_are_units printables_are_characters columns_are_few-most pieces_draw

pub screens_redraw-changes : ChangesRedraw
screens_redraw-changes =
    changes-redraw sequences_are_units controls_are_units printables_are_characters columns_are_few-most pieces_draw

pub near_is_drawn-drawn : NearIsDrawn
near_is_drawn-drawn = near_is_drawn columns_are_few-worked.replacement
