use Rattle.std.proofs.Common.{◌≡◌, get_or, sym, ◌∙◌, subst, arith}
use Rattle.session_order.proofs.Standings.{next-by}
use Rattle.session_order.proofs.for_laws.Meant.{next-meant}
use Rattle.session_order.specs.Standing.{AreAfter, SessionProgressView}
use Rattle.session_order.proofs.session_progress.SessionProgress.walk.Goals as goal

pub returns-clause-next : goal.returns-clause-next
returns-clause-next c = λ programs h program e is at gives.
    let view : SessionProgressView = record {
      walks = c.self.inside.walks.items;
      counts = c.self.inside.counts;
    } in
    let here : AreAfter programs h view = subst (AreAfter programs h) (sym c.self.view_is) at in
    let p : c.from.result ≡ c.args.p = c.from.ensures ∙ c.get.ensures.same in
    next-by next-meant programs h c.args.p program c.index.result.now e is
    (here.stand c.args.p program c.index.result.now
    (omega (arith, c.get.ensures.same, c.get.ensures.high)) is
    (subst (λ k. c.index.result.now ≡ get_or view.walks k c.index.result.now) p c.index.ensures))
    gives
