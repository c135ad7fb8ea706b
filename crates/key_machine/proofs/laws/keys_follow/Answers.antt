use Rattle.key_machine.proofs.for_laws.Following.{keys_follow}
use Rattle.key_machine.proofs.laws.keys_follow.Goals as goal

pub returns : goal.returns
returns c = keys_follow
