use Rattle.std.proofs.Common.{◌≡◌, take}
use Rattle.key_tables.proofs.key_tables.copy_funcs.Given as goal

abbrev pub invariant-loop-func : goal.invariant-loop-func
invariant-loop-func l = l.copies.items ≡ take l.func-index l.funcs
