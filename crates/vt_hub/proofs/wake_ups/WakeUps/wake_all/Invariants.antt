use Rattle.std.proofs.Common.{true}
use Rattle.vt_hub.proofs.Bits.{Looked}
use Rattle.vt_hub.specs.Waiters.{has_process}
use Rattle.vt_hub.proofs.wake_ups.WakeUps.wake_all.Given as goal

abbrev pub invariant-loop-caller : goal.invariant-loop-caller
invariant-loop-caller l = Looked (λ p. true) (λ p. true) 0 (has_process l.woken.bits) l.caller-index
