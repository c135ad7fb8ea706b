use Rattle.std.proofs.Common.{◌≡◌, List, get_or, set, sym, ap, ◌∙◌, subst, arith}
use Rattle.session_order.proofs.Standings.{Took, taken}
use Rattle.session_order.proofs.for_laws.Meant.{next-meant}
use Rattle.session_order.specs.Standing.{AreAfter, SessionProgressView}
use Rattle.session_text.specs.Walks.{Place}
use Rattle.session_order.proofs.session_progress.SessionProgress.took.Goals as goal

pub returns : goal.returns
returns c = λ programs h entry is at few by follows answer.
    let p : c.from.result ≡ c.args.p = c.from.ensures ∙ c.get.ensures.same in
    let items : List Place = c.self.inside.walks.items in
    let walk : Place = c.index_mut-walk.result.now in
    let moved : Place = c.took.new.self in
    let before : SessionProgressView = record { walks = items; counts = c.self.inside.counts } in
    let after : SessionProgressView = record {
      walks = set items c.from.result moved;
      counts = c.add.new.self;
    } in
    let took : Took c.args.p c.args.program.now c.args.r.now before after = record {
      walk = walk;
      moved = moved;
      known = omega (arith, c.get.ensures.same, c.get.ensures.high);
      read = subst (λ k. walk ≡ get_or items k walk) p c.index_mut-walk.ensures.value;
      walks = ap (λ k. set items k moved) p;
      counts = c.add.ensures;
      took = record { took = c.took.ensures };
    } in
    taken next-meant programs h entry c.args.p c.args.program.now c.args.r.now before after
    took is (subst (AreAfter programs h) (sym c.self.view_is) at) few by follows answer
