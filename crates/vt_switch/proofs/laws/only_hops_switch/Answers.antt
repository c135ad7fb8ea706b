use Rattle.vt_switch.proofs.for_laws.Hops.{only_hops_switch}
use Rattle.vt_switch.proofs.laws.only_hops_switch.Goals as goal

pub returns : goal.returns
returns c = only_hops_switch
