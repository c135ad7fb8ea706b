use Rattle.std.proofs.Common.{◌≡◌, ◌-◌, ◌≤◌}
use Rattle.session_text.specs.Programs.{calls_from}
use Rattle.session_text.proofs.acting.first_act.Given as goal

abbrev pub invariant-loop-at : goal.invariant-loop-at
invariant-loop-at g l =
    (1 ≤ l.at)
    × (calls_from (g.H.Asks.acts l.hooks) l.given l.at
    ≡ calls_from (g.H.Asks.acts l.hooks) l.given l.from)

abbrev pub decreases-loop-at : goal.decreases-loop-at
decreases-loop-at g l = 65 - l.at
