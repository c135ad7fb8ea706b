use Rattle.std.proofs.Common.{◌≡◌, drop}
use Rattle.std.specs.List.{list_any}
use Rattle.key_compile.specs.Entries.{is_alt}
use Rattle.key_compile.proofs.metas.has_alt_is_meta.Given as goal

abbrev pub invariant-loop-i : goal.invariant-loop-i
invariant-loop-i l = list_any (λ m. is_alt m.meaning) (drop l.i l.lines) ≡ list_any (λ m. is_alt m.meaning) l.lines
