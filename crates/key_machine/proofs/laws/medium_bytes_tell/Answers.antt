use Rattle.key_machine.proofs.for_laws.Medium.{medium_bytes_tell}
use Rattle.key_machine.proofs.laws.medium_bytes_tell.Goals as goal

pub returns : goal.returns
returns c = medium_bytes_tell
