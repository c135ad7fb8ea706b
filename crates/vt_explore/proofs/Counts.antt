-- How many states a search has.
use Rattle.std.proofs.Common.{ℕ, ◌<◌, arith}
use Rattle.vt_explore.specs.Questions.{HasStates, IfLimit}
use Rattle.vt_explore.specs.declared.outcome.End.{End}
use Rattle.vt_explore.specs.declared.outcome.End.TheVariants as stop

-- one that ended by its limit has more
pub limit_passed : (end : End) (limit states : ℕ) → HasStates end limit states → IfLimit end (limit < states)
limit_passed stop.Whole limit states is = tt
limit_passed stop.Answered limit states is = tt
limit_passed stop.Limit limit states is = omega (arith, is)
limit_passed stop.Long limit states is = tt
