use Rattle.std.proofs.Common.{◌≡◌, ℕ, ◌+◌, ◌%◌, ◌==◌, ◌&&◌, ◌||◌, List, cond, get_or, ap, ◌∙◌, arith}
use Rattle.vt_hub.proofs.Bits.{look_all, look_first, look_on, range_at}
use Rattle.vt_hub.specs.Waiters.{has_process}
use Rattle.vt_world.specs.State.{is_waiting}
use Rattle.vt_hub.proofs.waiters.Waiters.after.Goals as goal

pub loop-process-init : goal.loop-process-init
loop-process-init c =
    look_first (has_process c.args.self.bits) (is_waiting c.args.world.now) c.args.caller (has_process c.alone-waits.result.bits)
    c.alone-waits.ensures

pub loop-process-preserved : goal.loop-process-preserved
loop-process-preserved c =
    let i : ℕ = c.loop-process.process-index in
    let q : ℕ = c.process-item.result in
    let at : get_or c.processes-process-items.result i q ≡ i + 1 =
    ap (λ (items : List ℕ). get_or items i q) c.processes-process-items.ensures
    ∙ range_at 1 64 i q c.loop-process-test.true ∙ omega arith in
    look_on (has_process c.args.self.bits) (is_waiting c.args.world.now) c.args.caller i c.loop-process-test.true
    (has_process c.loop-process.waits.bits) (has_process c.also-waits.result.bits) c.loop-process.invariant
    (λ p. c.also-waits.ensures p
    ∙ ap (λ (n : ℕ). cond (has_process c.args.self.bits n && is_waiting c.args.world.now n)
    (p % 64 == n % 64 || has_process c.loop-process.waits.bits p) (has_process c.loop-process.waits.bits p)) at)

pub returns : goal.returns
returns c =
    look_all (has_process c.args.self.bits) (is_waiting c.args.world.now) c.args.caller (has_process c.loop-process.waits.bits)
    c.loop-process.process-index c.loop-process-test.false c.loop-process.invariant
