use Rattle.std.proofs.Common.{◌≡◌, [], replicate}
use Rattle.key_tables.proofs.key_tables.empty_funcs.Given as goal

abbrev pub invariant-loop-i : goal.invariant-loop-i
invariant-loop-i l = l.funcs.items ≡ replicate l._i []
