use Rattle.std.proofs.Common.{◌≡◌, ◌≤◌, ℕ}
use Rattle.std.specs.List.{flat_map}
use Rattle.vt_world.specs.Deeds.{apply_deeds}
use Rattle.vt_world.specs.Rows.{disallocate_deeds, free_deeds}
use Rattle.vt_world.specs.Refusals.{is_in_use}
use Rattle.vt_world.proofs.Freed.{unused_from}
use Rattle.vt_world.proofs.world.World.free_unused.Given as goal

abbrev pub invariant-loop-n : goal.invariant-loop-n
invariant-loop-n l = record {
  done : apply_deeds l.self (flat_map free_deeds (unused_from l.fn.self l.n))
      ≡ apply_deeds l.fn.self (disallocate_deeds l.fn.self 0);
  rest : (k : ℕ) → l.n ≤ k → is_in_use l.self k ≡ is_in_use l.fn.self k;
}
