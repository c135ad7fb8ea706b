use Rattle.std.proofs.Common.{◌≡◌, ◌+◌, ◌*◌, None, get_or, sym, ◌∙◌, arith}
use Rattle.std.proofs.lemmas.Grind.{common_steps}
use Rattle.key_machine.proofs.Downs.{recorded_action-downs}
use Rattle.key_machine.proofs.held.HeldKeys.press.Goals as goal

pub invariant_of-self : goal.invariant_of-self
invariant_of-self c =
    let up : get_or c.self.inside.entries (256 * c.args.from + c.args.code) None ≡ None =
    sym (recorded_action-downs c.self.inside.entries c.args.from c.args.code (omega arith))
    ∙ (rw c.self.view_is c.requires) in
    grind (arith, common_steps)

pub invariant_of-self-in_default : goal.invariant_of-self-in_default
invariant_of-self-in_default c =
    let up : get_or c.self.inside.entries (256 * c.args.from + c.args.code) None ≡ None =
    sym (recorded_action-downs c.self.inside.entries c.args.from c.args.code (omega arith))
    ∙ (rw c.self.view_is c.requires) in
    grind (arith, common_steps)
