use Rattle.std.proofs.Common.{sym, subst}
use Rattle.vt_explore.specs.Held.{IsPool}
use Rattle.vt_explore.proofs.pool.Pool.recent.Goals as goal

pub returns-then-same-clause-at : goal.returns-then-same-clause-at
returns-then-same-clause-at c = λ o kept.
    let pool : IsPool o (record {
      start = c.self.inside.start;
      spares = c.self.inside.spares.items;
      trail = c.self.inside.trail.items;
      recent = c.self.inside.recent.items;
    }) = subst (IsPool o) (sym c.self.view_is) kept in
    c.in-Some.ensures.at o pool.recent
