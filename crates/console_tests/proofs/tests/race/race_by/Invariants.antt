use Rattle.std.proofs.Common.{◌≡◌, length, take}
use Rattle.console_tests.proofs.tests.race.race_by.Given as goal

abbrev pub invariant-loop-handler : goal.invariant-loop-handler
invariant-loop-handler g l = record {
  can_next : (goal.iterator-loop-handler g).can_next l.handler-iterator;
  is_finite : (goal.iterator-loop-handler g).is_finite l.handler-iterator;
  hooks : l.hooks.items ≡ take (length l.yielded) l.acts;
  many : length l.hooks.items ≡ length l.yielded;
}
