use Rattle.vt_world.proofs.for_laws.Translations.{one_translation}
use Rattle.vt_world.proofs.laws.one_translation.Goals as goal

pub returns : goal.returns
returns c = one_translation
