use Rattle.std.proofs.Common.{◌≡◌, ℕ, List, sym, ap, ◌∙◌, arith}
use Rattle.key_machine.proofs.Unplugging.{left_first, left_next}
use Rattle.key_machine.specs.Held.{left_to}
use Rattle.key_machine.specs.Keys.{Down, without_key}
use Rattle.key_machine.proofs.held.HeldKeys.unplug.Goals as goal

pub loop-code-init : goal.loop-code-init
loop-code-init c = sym (left_first c.args.from c.args.self.now)

pub loop-code-preserved : goal.loop-code-preserved
loop-code-preserved c =
    c.release.ensures.up
    ∙ ap (λ (down : List Down). without_key down c.args.from c.loop-code.code) c.loop-code.invariant
    ∙ left_next c.args.from c.loop-code.code c.args.self.now

pub returns : goal.returns
returns c =
    let all : c.loop-code.code ≡ 256 = omega (arith, c.loop-code-test.false, c.loop-code.auto.code-end) in
    c.loop-code.invariant
    ∙ ap (λ (n : ℕ). left_to c.args.from n c.args.self.now) all
    ∙ c.has_bytes.ensures
