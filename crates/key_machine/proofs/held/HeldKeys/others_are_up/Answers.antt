use Rattle.std.proofs.Common.{◌≡◌, List, subst}
use Rattle.key_machine.proofs.Unplugging.{four_all}
use Rattle.key_machine.specs.Keys.{Down, without_keyboard}
use Rattle.key_machine.proofs.held.HeldKeys.others_are_up.Goals as goal

pub returns : goal.returns
returns c =
    subst (λ (down : List Down). without_keyboard down c.args.from ≡ down) c.self.view_is
    (four_all c.self.inside.entries c.args.from c.requires c.self.invariant.all)
