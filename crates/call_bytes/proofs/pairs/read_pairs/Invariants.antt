use Rattle.std.proofs.Common.{◌≡◌, true}
use Rattle.std.specs.Prelude.{map}
use Rattle.std.specs.List.{list_all, range_with_len}
use Rattle.call_bytes.specs.Pairs.{is_pair_at, pair_at}
use Rattle.call_bytes.proofs.pairs.read_pairs.Given as goal

abbrev pub invariant-loop-k : goal.invariant-loop-k
invariant-loop-k l = record {
  pairs : l.pairs ≡ map (pair_at l.b) (range_with_len 0 l.k);
  whole : list_all (is_pair_at l.b) (range_with_len 0 l.k) ≡ true;
}
