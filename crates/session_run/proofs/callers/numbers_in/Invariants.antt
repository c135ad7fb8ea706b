use Rattle.std.proofs.Common.{◌≡◌, filter}
use Rattle.std.specs.List.{range_with_len}
use Rattle.session_run.specs.Callers.{has_program}
use Rattle.session_run.proofs.callers.numbers_in.Given as goal

abbrev pub invariant-loop-i : goal.invariant-loop-i
invariant-loop-i l = l.numbers.items ≡ filter (has_program l.programs) (range_with_len 0 l.i)
