use Rattle.std.proofs.Common.{◌≡◌, ℕ, ◌+◌, ◌%◌, ◌==◌, ◌||◌, Bool, true, false, List, get_or, refl, sym, ap, ◌∙◌, arith}
use Rattle.vt_hub.proofs.Bits.{look_all, look_first, look_on, no_process, range_at}
use Rattle.vt_hub.specs.Waiters.{has_process}
use Rattle.vt_hub.proofs.wake_ups.WakeUps.wake_all.Goals as goal

pub loop-caller-init : goal.loop-caller-init
loop-caller-init c =
    look_first (λ p. true) (λ p. true) 0 (has_process c.none-woken.result.bits)
    (λ p process. c.none-woken.ensures p ∙ sym (no_process p process))

pub loop-caller-preserved : goal.loop-caller-preserved
loop-caller-preserved c =
    let i : ℕ = c.loop-caller.caller-index in
    let q : ℕ = c.caller-item.result in
    let old : ℕ → Bool = has_process c.loop-caller.woken.bits in
    let at : get_or c.processes-caller-items.result i q ≡ i + 1 =
    ap (λ (items : List ℕ). get_or items i q) c.processes-caller-items.ensures
    ∙ range_at 1 64 i q c.loop-caller-test.true ∙ omega arith in
    look_on (λ p. true) (λ p. true) 0 i c.loop-caller-test.true old (has_process c.and-woken.result.bits)
    c.loop-caller.invariant
    (λ p. c.and-woken.ensures p ∙ ap (λ (n : ℕ). p % 64 == n % 64 || old p) (c.ring-rung.ensures ∙ (c.from.ensures ∙ (c.get.ensures.same ∙ at))))

or-true : (b : Bool) → (b || true) ≡ true
or-true true = refl
or-true false = refl

pub returns : goal.returns
returns c = λ p process.
    look_all (λ p. true) (λ p. true) 0 (has_process c.loop-caller.woken.bits)
    c.loop-caller.caller-index c.loop-caller-test.false c.loop-caller.invariant p process
    ∙ or-true (p == 0)
