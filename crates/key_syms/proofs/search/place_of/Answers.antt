use Rattle.std.proofs.Common.{◌∙◌, arith, sym}
use Rattle.key_syms.proofs.Halves.{left_above, left_below, none_left, tied_texts}
use Rattle.key_syms.proofs.search.place_of.Goals as goal

pub loop-low-preserved-in-Less : goal.loop-low-preserved-in-Less
loop-low-preserved-in-Less c =
    left_above _ _ _ _ c.loop-low.invariant (omega arith) (omega arith) (cc)

pub returns-in-Equal-clause-found : goal.returns-in-Equal-clause-found
returns-in-Equal-clause-found c = (
  c.place_of_rank-place.ensures.within,
  sym c.name_at.ensures ∙ tied_texts c.name_at.result.now c.args.name.now (cc),
)

pub loop-low-preserved : goal.loop-low-preserved
loop-low-preserved c =
    left_below _ _ _ _ c.loop-low.invariant (omega arith) (omega arith) (cc)

pub returns-clause-missing : goal.returns-clause-missing
returns-clause-missing c = none_left _ _ _ c.loop-low.invariant (omega arith)
