use Rattle.std.proofs.Common.{ap, arith, length, ◌+◌, ◌++◌, ◌∷◌, [], ◌∙◌}
use Rattle.std.proofs.lemmas.List.FromFn.{length-map-range_with_len}
use Rattle.session_run.proofs.Drilling.{start_at, starts_more}
use Rattle.session_run.proofs.drill.starts.Goals as goal

pub loop-i-preserved : goal.loop-i-preserved
loop-i-preserved c =
    c.push.ensures
    ∙ ap (λ list. list ++ start_at (1 + c.loop-i.i) ∷ []) c.loop-i.invariant
    ∙ starts_more c.loop-i.i

pub push-requires : goal.push-requires
push-requires c =
    omega (arith, ap length c.loop-i.invariant, length-map-range_with_len start_at 1 c.loop-i.i, c.loop-i-test.true)
