use Rattle.std.proofs.Common.{◌≡◌}
use Rattle.session_order.specs.Ends.{Setup}
use Rattle.session_order.specs.Serial.{Played, rounds}
use Rattle.session_run.specs.Playing.{IsAt}
use Rattle.session_run.proofs.player.Player.rounds.Given as goal

abbrev pub invariant-loop-round : goal.invariant-loop-round
invariant-loop-round g l =
    (o : Setup) (t : Played) → o.programs ≡ l.callers → IsAt o t l.initial.self
    → IsAt o (rounds o l._round t) l.self
