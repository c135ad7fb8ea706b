use Rattle.std.proofs.Common.{sym, subst}
use Rattle.vt_explore.proofs.Holding.{on_ok}
use Rattle.vt_explore.specs.Held.{IsPool}
use Rattle.session_order.specs.Ends.{Setup}
use Rattle.session_order.specs.Sessions.{setup_of}
use Rattle.vt_explore.proofs.Holding.{held_last, held_less}
use Rattle.vt_explore.proofs.pool.Pool.take.Goals as goal

pub returns-in-Some-clause-pool : goal.returns-in-Some-clause-pool
returns-in-Some-clause-pool c =
    let o : Setup = setup_of c.args.s.now in
    let pool : IsPool o (record {
      start = c.self.inside.start;
      spares = c.self.inside.spares.items;
      trail = c.self.inside.trail.items;
      recent = c.self.inside.recent.items;
    }) = subst (IsPool o) (sym c.self.view_is) c.requires in
    record {
      start = pool.start;
      first = pool.first;
      spares = held_less o c.self.inside.spares.items c.pop.new.self.items c.pop.result pool.spares c.pop.ensures.items;
      trail = pool.trail;
      recent = pool.recent;
    }

pub returns-in-Some-clause-at : goal.returns-in-Some-clause-at
returns-in-Some-clause-at c =
    let o : Setup = setup_of c.args.s.now in
    let pool : IsPool o (record {
      start = c.self.inside.start;
      spares = c.self.inside.spares.items;
      trail = c.self.inside.trail.items;
      recent = c.self.inside.recent.items;
    }) = subst (IsPool o) (sym c.self.view_is) c.requires in
    held_last o c.self.inside.spares.items c.pop.new.self.items c.pop.result c.in-Some.held pool.spares c.pop.ensures.items
    c.in-Some.is

pub returns-clause-pool : goal.returns-clause-pool
returns-clause-pool c =
    let o : Setup = setup_of c.args.s.now in
    let pool : IsPool o (record {
      start = c.self.inside.start;
      spares = c.self.inside.spares.items;
      trail = c.self.inside.trail.items;
      recent = c.self.inside.recent.items;
    }) = subst (IsPool o) (sym c.self.view_is) c.requires in
    on_ok c.start.result (record {
      start = pool.start;
      first = pool.first;
      spares = held_less o c.self.inside.spares.items c.pop.new.self.items c.pop.result pool.spares c.pop.ensures.items;
      trail = pool.trail;
      recent = pool.recent;
    })
