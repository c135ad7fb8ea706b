use Rattle.vt_cells.proofs.Stated.{columns_are_few-worked}
use Rattle.vt_screen.proofs.for_laws.TapeHalves.{halves_follow_wide}
use Rattle.vt_units.proofs.Stated.{texts_spell_characters}
use Rattle.vt_screen.proofs.laws.halves_follow_wide.Goals as goal

pub returns : goal.returns
returns c = halves_follow_wide columns_are_few-worked.right_half texts_spell_characters
