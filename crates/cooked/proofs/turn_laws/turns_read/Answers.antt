use Rattle.cooked.proofs.for_laws.ReadingLaws.{turns_read}
use Rattle.cooked.proofs.turn_laws.turns_read.Goals as goal

pub returns : goal.returns
returns c = turns_read
