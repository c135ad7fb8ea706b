use Rattle.vt_cells.proofs.Stated.{columns_are_few-worked}
use Rattle.vt_screen.proofs.for_laws.TapeHalves.{tapes_keep_halves}
use Rattle.vt_units.proofs.Stated.{texts_spell_characters}
use Rattle.vt_screen.proofs.laws.tapes_keep_halves.Goals as goal

pub returns : goal.returns
returns c = tapes_keep_halves columns_are_few-worked.right_half texts_spell_characters
