use Rattle.vt_cells.proofs.Stated.{columns_are_few-low, columns_are_few-plain, columns_are_few-private}
use Rattle.vt_cells.proofs.Stated.{columns_are_few-worked}
use Rattle.vt_screen.proofs.for_laws.TapeCharacters.{tapes_keep_characters}
use Rattle.vt_units.proofs.Stated.{texts_spell_characters}
use Rattle.vt_screen.proofs.laws.tapes_keep_characters.Goals as goal

pub returns : goal.returns
returns c =
    tapes_keep_characters columns_are_few-low columns_are_few-plain columns_are_few-private columns_are_few-worked
    texts_spell_characters
