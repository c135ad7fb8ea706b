use Rattle.std.proofs.Common.{◌≡◌, drop}
use Rattle.session_order.specs.Ends.{Setup}
use Rattle.session_order.specs.Serial.{Played, turns}
use Rattle.session_run.specs.Playing.{IsAt}
use Rattle.session_run.proofs.player.Player.turns.Given as goal

abbrev pub invariant-loop-n : goal.invariant-loop-n
invariant-loop-n g l =
    (o : Setup) (t : Played) → o.programs ≡ l.callers → IsAt o t l.initial.self
    → (now : Played) × IsAt o now l.self × (turns o (drop l.n-index l.first) now ≡ turns o l.first t)
