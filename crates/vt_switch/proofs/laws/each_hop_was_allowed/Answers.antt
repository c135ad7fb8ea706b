use Rattle.vt_switch.proofs.for_laws.Lawful.{display_law}
use Rattle.vt_switch.proofs.laws.each_hop_was_allowed.Goals as goal

pub returns : goal.returns
returns c = display_law
