use Rattle.std.proofs.Common.{ap, sym, ◌∙◌}
use Rattle.key_machine.specs.Keys.{State}
use Rattle.vt_world.specs.Inputs.{input_at}
use Rattle.vt_world.specs.State.{WorldState}
use Rattle.vt_world.proofs.Typed.{scan_told}
use Rattle.vt_world.proofs.world.World.scan_on.Goals as goal

pub returns-then-keys-eq-RAW : goal.returns-then-keys-eq-RAW
returns-then-keys-eq-RAW c =
    scan_told c.args.self.now c.read.new.self c.put.new.self c.args.k c.args.n c.args.b c.keys.result
    (c.keys.ensures ∙ ap (λ (u : WorldState). (input_at u.inputs c.args.n).keys) c.self.view_is)
    (ap (λ (k : State). k.mode) (sym c.keys-2.view_is) ∙ c.if-keys-eq-RAW.true) c.put.ensures c.read.ensures
