use Rattle.std.proofs.Common.{◌≡◌, ◌<◌, ℕ, false, length, slice_index_or}
use Rattle.vt_world.specs.Typing.{uses}
use Rattle.vt_world.proofs.world.World.users.Given as goal

abbrev pub invariant-loop-p : goal.invariant-loop-p
invariant-loop-p l = record {
  places : length l.users ≡ 65;
  flags : (k : ℕ) → k < l.p → slice_index_or l.users k false ≡ uses l.self l.n k;
}
