use Rattle.vt_units.proofs.for_laws.Prints.{texts_spell}
use Rattle.vt_units.proofs.laws.texts_spell_characters.Goals as goal

pub returns : goal.returns
returns c = texts_spell
