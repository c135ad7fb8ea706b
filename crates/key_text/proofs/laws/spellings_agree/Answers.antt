use Rattle.key_text.proofs.for_laws.Spellings.{spellings_agree}
use Rattle.key_text.proofs.laws.spellings_agree.Goals as goal

pub returns : goal.returns
returns c = spellings_agree
