use Rattle.std.proofs.Common.{ℕ, [], ◌∷◌, ◌++◌, arith, length, refl, sym, ap, ◌∙◌, subst}
use Rattle.std.proofs.lemmas.List.{length_push}
use Rattle.vt_explore.proofs.Nevers.{extends_same, like_itself}
use Rattle.vt_explore.proofs.Sorted.{sorted_push}
use Rattle.vt_explore.specs.Alike.{HasLike}
use Rattle.vt_explore.specs.Searches.{AreSorted}
use Rattle.session_order.specs.Ends.{Setup}
use Rattle.session_order.specs.Orders.{history_of}
use Rattle.session_order.specs.Sessions.{setup_of}
use Rattle.vt_explore.proofs.search.Search.enter.Goals as goal

pub returns-then-branch-clause-grows : goal.returns-then-branch-clause-grows
returns-then-branch-clause-grows c = extends_same c.args.self.now

pub returns-then-branch-clause-sorted : goal.returns-then-branch-clause-sorted
returns-then-branch-clause-sorted c = c.requires.sorted

pub returns-then-branch-clause-known : goal.returns-then-branch-clause-known
returns-then-branch-clause-known c =
    c.in_ok-knows.ensures.like c.if-branch.true c.requires.sorted

pub returns-clause-grows : goal.returns-clause-grows
returns-clause-grows c = record {
  more = c.args.held.order ∷ [];
  is =
      c.in_ok-push.ensures.items
      ∙ (λ i. c.self.view_is i ++ (c.in_ok-order.ensures ∙ c.order.ensures) i ∷ []);
}

pub returns-clause-sorted : goal.returns-clause-sorted
returns-clause-sorted c =
    let o : Setup = setup_of c.args.s.now in
    let most : ℕ = length (history_of o c.args.held.order) in
    subst (λ known. AreSorted o known most)
    (sym (c.in_ok-push.ensures.items
    ∙ (λ i. c.self.view_is i ++ (c.in_ok-order.ensures ∙ c.order.ensures) i ∷ [])))
    (sorted_push o c.args.self.now c.args.held.order most refl c.requires.full c.requires.sorted)

pub returns-clause-known : goal.returns-clause-known
returns-clause-known c =
    subst (λ known. HasLike (setup_of c.args.s.now) known (history_of (setup_of c.args.s.now) c.args.held.order))
    (sym (c.in_ok-push.ensures.items
    ∙ (λ i. c.self.view_is i ++ (c.in_ok-order.ensures ∙ c.order.ensures) i ∷ [])))
    (like_itself (setup_of c.args.s.now) c.args.self.now c.args.held.order
    (history_of (setup_of c.args.s.now) c.args.held.order) refl)

pub returns-clause-one : goal.returns-clause-one
returns-clause-one c =
    let more =
    c.in_ok-push.ensures.items
    ∙ (λ i. c.self.view_is i ++ (c.in_ok-order.ensures ∙ c.order.ensures) i ∷ []) in
    omega (arith, ap length more, length_push c.args.self.now c.args.held.order)
