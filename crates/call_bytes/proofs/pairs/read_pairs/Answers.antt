use Rattle.std.proofs.Common.{◌≡◌, ◌/◌, false, length, sym, ap, ◌∙◌, arith}
use Rattle.std.specs.List.{list_all, range_with_len}
use Rattle.std.proofs.lemmas.List.FromFn.{length-map-range_with_len}
use Rattle.call_bytes.specs.Pairs.{is_pair_at, pair_at}
use Rattle.call_bytes.proofs.Tables.{pairs_refused}
use Rattle.call_bytes.proofs.Texts.{fails_at, holds_more, item_more}
use Rattle.call_bytes.proofs.pairs.read_pairs.Goals as goal

pub returns-then-not-is_pair_at : goal.returns-then-not-is_pair_at
returns-then-not-is_pair_at c =
    let b = c.args.b.now in
    let fails : list_all (is_pair_at b) (range_with_len 0 (length b / 12)) ≡ false =
    fails_at (is_pair_at b) (length b / 12) c.loop-k.k c.loop-k-test.true
    (sym c.is_pair_at.ensures ∙ c.if-not-is_pair_at.true) in
    pairs_refused b fails

pub push-requires : goal.push-requires
push-requires c =
    omega (arith, ap length c.loop-k.invariant.pairs, length-map-range_with_len (pair_at c.args.b.now) 0 c.loop-k.k)

pub loop-k-preserved : goal.loop-k-preserved
loop-k-preserved c =
    let b = c.args.b.now in
    record {
      pairs =
          item_more (pair_at b) c.loop-k.k c.pair_at.result c.loop-k.pairs c.push.new.self c.pair_at.ensures
          c.push.ensures c.loop-k.invariant.pairs;
      whole = holds_more (is_pair_at b) c.loop-k.k c.loop-k.invariant.whole (sym c.is_pair_at.ensures ∙ c.if-not-is_pair_at.false);
    }
