use Rattle.vt_redraw.proofs.for_laws.DrawableRows.{rows_are_characters}
use Rattle.vt_redraw.proofs.laws.rows_are_characters.Goals as goal

pub returns : goal.returns
returns c = rows_are_characters
