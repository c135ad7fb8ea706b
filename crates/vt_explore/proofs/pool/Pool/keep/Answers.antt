use Rattle.std.proofs.Common.{sym, subst}
use Rattle.vt_explore.specs.Held.{IsPool}
use Rattle.session_order.specs.Ends.{Setup}
use Rattle.session_order.specs.Sessions.{setup_of}
use Rattle.vt_explore.proofs.pool.Pool.keep.Goals as goal

pub put-requires-clause-all : goal.put-requires-clause-all
put-requires-clause-all c =
    let o : Setup = setup_of c.args.s.now in
    let pool : IsPool o (record {
      start = c.self.inside.start;
      spares = c.self.inside.spares.items;
      trail = c.self.inside.trail.items;
      recent = c.self.inside.recent.items;
    }) = subst (IsPool o) (sym c.self.view_is) c.requires.pool in
    pool.recent

pub give-requires-clause-pool : goal.give-requires-clause-pool
give-requires-clause-pool c =
    let o : Setup = setup_of c.args.s.now in
    let pool : IsPool o (record {
      start = c.self.inside.start;
      spares = c.self.inside.spares.items;
      trail = c.self.inside.trail.items;
      recent = c.self.inside.recent.items;
    }) = subst (IsPool o) (sym c.self.view_is) c.requires.pool in
    record {
      start = pool.start;
      first = pool.first;
      spares = pool.spares;
      trail = pool.trail;
      recent = c.in_ok-old.ensures.all;
    }

pub returns-in-None : goal.returns-in-None
returns-in-None c =
    let o : Setup = setup_of c.args.s.now in
    let pool : IsPool o (record {
      start = c.self.inside.start;
      spares = c.self.inside.spares.items;
      trail = c.self.inside.trail.items;
      recent = c.self.inside.recent.items;
    }) = subst (IsPool o) (sym c.self.view_is) c.requires.pool in
    record {
      start = pool.start;
      first = pool.first;
      spares = pool.spares;
      trail = pool.trail;
      recent = c.in_ok-old.ensures.all;
    }
