use Rattle.std.proofs.Common.{sym, subst}
use Rattle.vt_explore.specs.Held.{IsPool}
use Rattle.session_order.specs.Ends.{Setup}
use Rattle.session_order.specs.Sessions.{setup_of}
use Rattle.vt_explore.proofs.Holding.{held_more}
use Rattle.vt_explore.proofs.pool.Pool.give.Goals as goal

pub returns : goal.returns
returns c =
    let o : Setup = setup_of c.args.s.now in
    let pool : IsPool o (record {
      start = c.self.inside.start;
      spares = c.self.inside.spares.items;
      trail = c.self.inside.trail.items;
      recent = c.self.inside.recent.items;
    }) = subst (IsPool o) (sym c.self.view_is) c.requires.pool in
    record {
      start = pool.start;
      first = pool.first;
      spares = held_more o c.self.inside.spares.items c.push.new.self.items c.args.held pool.spares c.requires.at
          c.in_ok-push.ensures.items;
      trail = pool.trail;
      recent = pool.recent;
    }
