use Rattle.std.proofs.Common.{◌≡◌, ◌++◌, drop}
use Rattle.std.specs.List.{flat_map}
use Rattle.watch.specs.States.{waiter_text_at, waiters_text}
use Rattle.watch.proofs.states.waiters_text.Given as goal

abbrev pub invariant-loop-p : goal.invariant-loop-p
invariant-loop-p l =
    l.text.bytes ++ flat_map (waiter_text_at l.form l.world) (drop l.p-index l.all) ≡ waiters_text l.form l.world
