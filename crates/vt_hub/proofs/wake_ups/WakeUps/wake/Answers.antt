use Rattle.std.proofs.Common.{◌≡◌, ℕ, ◌+◌, ◌%◌, ◌==◌, ◌&&◌, ◌||◌, Bool, true, false, List, cond, get_or, refl, sym, ap, ◌∙◌, arith}
use Rattle.vt_hub.proofs.Bits.{look_all, look_first, look_on, no_process, range_at}
use Rattle.vt_hub.specs.Waiters.{has_process}
use Rattle.vt_hub.proofs.wake_ups.WakeUps.wake.Goals as goal

and-true : (b : Bool) → b ≡ (b && true)
and-true true = refl
and-true false = refl

pub loop-caller-init : goal.loop-caller-init
loop-caller-init c =
    look_first (has_process c.set-callers.result.bits) (λ p. true) 0 (has_process c.none-woken.result.bits)
    (λ p process. c.none-woken.ensures p ∙ sym (no_process p process))

pub loop-caller-preserved : goal.loop-caller-preserved
loop-caller-preserved c =
    let i : ℕ = c.loop-caller.caller-index in
    let q : ℕ = c.caller-item.result in
    let has : ℕ → Bool = has_process c.set-callers.result.bits in
    let old : ℕ → Bool = has_process c.loop-caller.woken.bits in
    let at : get_or c.processes-caller-items.result i q ≡ i + 1 =
    ap (λ (items : List ℕ). get_or items i q) c.processes-caller-items.ensures
    ∙ range_at 1 64 i q c.loop-caller-test.true ∙ omega arith in
    look_on has (λ p. true) 0 i c.loop-caller-test.true old (has_process c.ring-woken.result.bits) c.loop-caller.invariant
    (λ p. c.ring-woken.ensures p
    ∙ ap (λ (n : ℕ). cond (has n) (p % 64 == n % 64 || old p) (old p)) at
    ∙ ap (λ (b : Bool). cond b (p % 64 == (i + 1) % 64 || old p) (old p)) (and-true (has (i + 1))))

pub returns : goal.returns
returns c = λ p process.
    look_all (has_process c.set-callers.result.bits) (λ p. true) 0 (has_process c.loop-caller.woken.bits)
    c.loop-caller.caller-index c.loop-caller-test.false c.loop-caller.invariant p process
    ∙ ap (λ (b : Bool). b || has_process c.set-callers.result.bits p) (no_process p process)
    ∙ ap (λ (bits : ℕ). has_process bits p) (ap (λ w. w.bits) c.set-callers.ensures)
