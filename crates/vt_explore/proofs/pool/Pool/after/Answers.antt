use Rattle.std.proofs.Common.{ℕ, List, ◌∷◌, [], ◌++◌, get_or, arith, ap, ◌∙◌}
use Rattle.vt_explore.proofs.Holding.{take_next}
use Rattle.vt_explore.proofs.pool.Pool.after.Goals as goal

pub loop-k-preserved : goal.loop-k-preserved
loop-k-preserved c =
    let turns : List ℕ = c.as_slice-turns.result.now in
    let k : ℕ = c.loop-k.k in
    record {
      pool = c.in_ok-mark.ensures;
      at = c.in_ok-turn.ensures.at c.loop-k.invariant.at;
      turns =
          c.in_ok-turn.ensures.order
          ∙ ap (λ made. made ++ get_or turns k 0 ∷ []) c.loop-k.invariant.turns
          ∙ take_next turns k 0 c.loop-k-test.true;
      few = omega (arith, c.loop-k-test.true);
    }
