use Rattle.std.proofs.Common.{sym, subst}
use Rattle.vt_explore.specs.Held.{IsPool}
use Rattle.vt_explore.proofs.pool.Pool.nearest.Goals as goal

pub returns-in-Some-clause-at : goal.returns-in-Some-clause-at
returns-in-Some-clause-at c = λ o kept.
    let pool : IsPool o (record {
      start = c.self.inside.start;
      spares = c.self.inside.spares.items;
      trail = c.self.inside.trail.items;
      recent = c.self.inside.recent.items;
    }) = subst (IsPool o) (sym c.self.view_is) kept in
    c.in-Some.ensures.at o pool.recent

pub returns-in-Some-along-clause-at : goal.returns-in-Some-along-clause-at
returns-in-Some-along-clause-at c = λ o kept.
    let pool : IsPool o (record {
      start = c.self.inside.start;
      spares = c.self.inside.spares.items;
      trail = c.self.inside.trail.items;
      recent = c.self.inside.recent.items;
    }) = subst (IsPool o) (sym c.self.view_is) kept in
    c.in-Some-along.ensures.at o pool.trail
