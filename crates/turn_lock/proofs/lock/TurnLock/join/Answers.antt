use Rattle.std.proofs.Common.{sym, ap, subst, ◌∙◌, rules}
use Rattle.turn_lock.specs.Views.{IsFirst, among, joined_of, made_of, number_of}
use Rattle.turn_lock.specs.Words.{view}
use Rattle.turn_lock.proofs.Steps.{compares_ok}
use Rattle.turn_lock.proofs.lock.TurnLock.join.Goals as goal

pub load-requires : goal.load-requires
load-requires g c = (
  search rules,
  search rules,
  compares_ok g.K.Kept.before g.K.Kept.entries g.K.Kept.seal g.K.Kept.right _ _ _
      (subst (λ v. IsFirst v.role) (sym c.take_in.ensures.1) tt),
)

pub returns-clause-number : goal.returns-clause-number
returns-clause-number g c =
    let taken = c.take_in.ensures.1 in
    let alone = c.load.ensures.2.3 _ _ (ap (λ v. joined_of v.role) taken) in
    sym (ap (λ v. among (number_of (view c.args.q).role) (made_of v.role)) taken) ∙ alone.0

pub returns-clause-once : goal.returns-clause-once
returns-clause-once g c =
    (c.load.ensures.2.3 _ _ (ap (λ v. joined_of v.role) c.take_in.ensures.1)).1
