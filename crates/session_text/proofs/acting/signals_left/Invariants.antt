use Rattle.std.proofs.Common.{◌-◌}
use Rattle.session_text.proofs.LeftSignals.{AreLeftBelow}
use Rattle.session_text.proofs.acting.signals_left.Given as goal

-- the signals below `at` are looked at
abbrev pub invariant-loop-at : goal.invariant-loop-at
invariant-loop-at g l = AreLeftBelow (g.H.Asks.acts l.hooks) l.given l.from l.at l.left

abbrev pub decreases-loop-at : goal.decreases-loop-at
decreases-loop-at g l = 65 - l.at
