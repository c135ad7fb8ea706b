use Rattle.std.proofs.Common.{subst}
use Rattle.machine.specs.MachineState.{IsContinued, MachineState}
use Rattle.machine.proofs.machine.Machine.stays_legal.Goals as goal

pub returns : goal.returns
returns c = subst (λ (m : MachineState). IsContinued m) c.self.view_is c.self.invariant
