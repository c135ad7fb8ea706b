use Rattle.std.proofs.Common.{List, ap, ◌∙◌, sym}
use Rattle.key_machine.proofs.Unplugging.{left_all}
use Rattle.key_machine.specs.Held.{left_to}
use Rattle.key_machine.specs.Keys.{Down, without_keyboard}
use Rattle.key_machine.proofs.held.HeldKeys.has_bytes.Goals as goal

pub returns : goal.returns
returns c =
    ap (left_to c.args.from 256) (sym c.self.view_is)
    ∙ left_all c.self.inside.entries c.args.from
    ∙ ap (λ (down : List Down). without_keyboard down c.args.from) c.self.view_is
