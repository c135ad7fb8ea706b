use Rattle.std.proofs.Common.{◌≡◌, IfSome, Option, Some, subst, sym, ap, ◌∙◌}
use Rattle.machine.specs.MachineState.{MachineState}
use Rattle.c_calls.specs.Codes.{RANGE}
use Rattle.machine_c.specs.Started.{IsSeat}
use Rattle.machine_c.proofs.admitting.vt_machine_admit.Goals as goal

pub returns-in-Some-change-clause-range : goal.returns-in-Some-change-clause-range
returns-in-Some-change-clause-range c =
    subst
    (λ (o : Option MachineState). IfSome o
    (λ m. (¬ IsSeat c.args.seat.now) → (c.admit.result ≡ RANGE) × (c.change-put.new.self.value ≡ Some m)))
    (sym c.in-Some-change.ensures.old)
    (λ (out : ¬ IsSeat c.args.seat.now).
    let left = c.admit.ensures.range out in
    (left.0, c.change-put.ensures ∙ ap (λ (m : MachineState). Some m) (left.1 ∙ c.deref_mut.ensures.value)))
