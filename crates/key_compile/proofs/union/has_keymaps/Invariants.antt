use Rattle.std.proofs.Common.{◌≡◌, drop}
use Rattle.std.specs.List.{list_any}
use Rattle.key_compile.specs.Union.{is_keymaps}
use Rattle.key_compile.proofs.union.has_keymaps.Given as goal

abbrev pub invariant-loop-i : goal.invariant-loop-i
invariant-loop-i l = list_any (λ m. is_keymaps m.meaning) (drop l.i l.lines) ≡ list_any (λ m. is_keymaps m.meaning) l.lines
