use Rattle.std.proofs.Common.{◌≡◌, vec_len}
use Rattle.turn_lock.proofs.bells.Bells.hang.Given as goal

abbrev pub invariant-loop-bell : goal.invariant-loop-bell
invariant-loop-bell g l = vec_len l.each ≡ l._bell
