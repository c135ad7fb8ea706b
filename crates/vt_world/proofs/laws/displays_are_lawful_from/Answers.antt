use Rattle.vt_switch.proofs.Stated.{each_hop_was_allowed}
use Rattle.vt_world.proofs.for_laws.Displays.{displays_are_lawful_from}
use Rattle.vt_world.proofs.laws.displays_are_lawful_from.Goals as goal

pub returns : goal.returns
returns c =
    displays_are_lawful_from each_hop_was_allowed c.args.w.now c.owners_live.ensures
