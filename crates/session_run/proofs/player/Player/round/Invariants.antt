use Rattle.std.proofs.Common.{◌≡◌, drop}
use Rattle.session_order.specs.Ends.{Setup}
use Rattle.session_order.specs.Serial.{Played, turns}
use Rattle.session_run.specs.Playing.{IsAt}
use Rattle.session_run.proofs.player.Player.round.Given as goal

abbrev pub invariant-loop-p : goal.invariant-loop-p
invariant-loop-p g l =
    (o : Setup) (t : Played) → o.programs ≡ l.callers → IsAt o t l.initial.self
    → (now : Played) × IsAt o now l.self × (turns o (drop l.p-index l.numbers) now ≡ turns o l.numbers t)
