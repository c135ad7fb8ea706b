use Rattle.std.proofs.Common.{◌≡◌, length}
use Rattle.turn_lock.specs.declared.view.Role.TheVariants.{Caller}
use Rattle.turn_lock.specs.Words.{view, RestsIn}
use Rattle.console_tests.proofs.tests.lock.publish_all.Given as goal

abbrev pub invariant-loop-seq : goal.invariant-loop-seq
invariant-loop-seq g l = RestsIn l.lock l.pass × ((view l.pass).role ≡ Caller l.by)
    × (length (view l.pass).mine ≡ l.seq)
