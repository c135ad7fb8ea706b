use Rattle.std.proofs.Common.{◌≡◌, List, get_or, set, refl, sym, ap, ◌∙◌, subst, arith}
use Rattle.session_order.proofs.Forgetting.{Forgot, forgot}
use Rattle.session_order.specs.Standing.{AreAfter, SessionProgressView}
use Rattle.session_text.specs.Walks.{Place}
use Rattle.session_order.proofs.session_progress.SessionProgress.forget.Goals as goal

pub returns : goal.returns
returns c = λ programs h is at.
    let p : c.from.result ≡ c.args.p = c.from.ensures ∙ c.get.ensures.same in
    let items : List Place = c.self.inside.walks.items in
    let walk : Place = c.index_mut-walk.result.now in
    let moved : Place = c.forget.new.self in
    let before : SessionProgressView = record { walks = items; counts = c.self.inside.counts } in
    let after : SessionProgressView = record {
      walks = set items c.from.result moved;
      counts = c.self.inside.counts;
    } in
    let change : Forgot c.args.p c.args.program.now before after = record {
      walk = walk;
      moved = moved;
      known = omega (arith, c.get.ensures.same, c.get.ensures.high);
      read = subst (λ k. walk ≡ get_or items k walk) p c.index_mut-walk.ensures.value;
      walks = ap (λ k. set items k moved) p;
      counts = refl;
      stands = c.forget.ensures.stands;
    } in
    forgot programs h c.args.p c.args.program.now before after change is
    (subst (AreAfter programs h) (sym c.self.view_is) at)
