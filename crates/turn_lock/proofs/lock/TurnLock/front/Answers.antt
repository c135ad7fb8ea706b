use Rattle.std.proofs.Common.{◌∙◌, ap, sym, subst, rules}
use Rattle.turn_lock.specs.Told.{Reads}
use Rattle.turn_lock.specs.Views.{with_known_word}
use Rattle.turn_lock.specs.Words.{view}
use Rattle.turn_lock.proofs.Steps.{reads_ok}
use Rattle.turn_lock.proofs.lock.TurnLock.front.Goals as goal

pub load-requires : goal.load-requires
load-requires g c = (
  search rules,
  search rules,
  reads_ok g.K.Kept.before g.K.Kept.entries
      g.K.Kept.seal g.K.Kept.right _ _ _ g.met.K.Kept.display c.requires.1.2,
)

pub returns-clause-own : goal.returns-clause-own
returns-clause-own g c =
    let told = c.load.ensures.2 in
    let is = ap (λ m. m.0.read) told.1 in (
      search rules,
      ap (λ m. m.0) told.1 ∙ ap (λ log. with_known_word log c.load.result (view c.args.p.now)) (sym is),
    )

pub returns-clause-reads : goal.returns-clause-reads
returns-clause-reads g c =
    let told = c.load.ensures.2 in
    subst (λ log. Reads g.K.Kept.before g.K.Kept.right log c.load.result (view c.args.p.now))
    (sym (ap (λ m. m.0.read) told.1)) told.2
