use Rattle.vt_hub.proofs.Bits.{Looked}
use Rattle.vt_hub.specs.Waiters.{has_process}
use Rattle.vt_world.specs.State.{is_waiting}
use Rattle.vt_hub.proofs.waiters.Waiters.after.Given as goal

abbrev pub invariant-loop-process : goal.invariant-loop-process
invariant-loop-process l =
    Looked (has_process l.self.bits) (is_waiting l.world) l.fn.caller (has_process l.waits.bits) l.process-index
