use Rattle.std.proofs.Common.{◌≡◌}
use Rattle.key_machine.specs.Held.{left_to}
use Rattle.key_machine.proofs.held.HeldKeys.unplug.Given as goal

abbrev pub invariant-loop-code : goal.invariant-loop-code
invariant-loop-code l = l.self ≡ left_to l.from l.code l.fn.self
