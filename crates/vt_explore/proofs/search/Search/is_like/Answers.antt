use Rattle.std.proofs.Common.{◌≡◌, List, ℕ, Some, length, refl, ◌∙◌, subst}
use Rattle.std.proofs.lemmas.Option.{slice_get_read}
use Rattle.std.proofs.lemmas.Result.{IfOk-weaker}
use Rattle.std.specs.Prelude.{slice_get}
use Rattle.vt_explore.proofs.search.Search.is_like.Goals as goal

pub returns-clause-like : goal.returns-clause-like
returns-clause-like c = IfOk-weaker c.is_like.result _ _
    (λ is gives yes sorted.
    let order : List ℕ = c.in-Some.order.now in
    let orders : List (List ℕ) = c.deref.result.now in
    let here : slice_get c.args.self.now c.args.place ≡ Some order =
    subst (λ known. slice_get known c.args.place ≡ Some order) (c.deref.ensures.value ∙ c.self.view_is)
    (slice_get_read orders (length orders) c.args.place order refl c.in-Some.ensures.lookup.3.0 c.in-Some.ensures.lookup.1) in
    record {
      place = c.args.place;
      order = order;
      at = here;
      alike = gives yes;
      few = sorted.few c.args.place order here;
    })
    c.is_like.ensures.like
