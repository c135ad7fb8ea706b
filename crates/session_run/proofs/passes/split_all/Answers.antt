use Rattle.std.proofs.Common.{◌≡◌, ℕ, ◌+◌, List, [], ◌∷◌, ◌++◌, get_or, length, sym, ap, ◌∙◌, subst}
use Rattle.std.proofs.lemmas.List.{get_or_default, length_push}
use Rattle.std.specs.List.Sorted.{IsStrictlyIncreasing}
use Rattle.session_run.proofs.HavePrograms.{callers_rise}
use Rattle.session_run.proofs.Joins.{fresh_more, split_free, split_more}
use Rattle.session_run.specs.Racing.{AreFresh, IsSplit}
use Rattle.vt_hub.specs.Views.{PassView}
use Rattle.session_run.proofs.passes.split_all.Goals as goal

pub split-requires-clause-fresh : goal.split-requires-clause-fresh
split-requires-clause-fresh g c =
    let numbers : List ℕ = c.numbers-numbers.result.now in
    split_free c.args.hub.now numbers c.loop-p.p-index c.p-item.result c.loop-p.steward
    (subst IsStrictlyIncreasing (sym c.numbers-numbers.ensures) (callers_rise c.args.callers.now)) c.loop-p-test.true
    (c.p-item.is ∙ get_or_default numbers c.loop-p.p-index c.p-item.result 0 c.loop-p-test.true) c.loop-p.invariant.split

pub loop-p-preserved : goal.loop-p-preserved
loop-p-preserved g c =
    let numbers : List ℕ = c.numbers-numbers.result.now in
    let i : ℕ = c.loop-p.p-index in
    let p : ℕ = c.p-item.result in
    let passes : List PassView = c.loop-p.passes.items in
    let at : p ≡ get_or numbers i 0 = c.p-item.is ∙ get_or_default numbers i p 0 c.loop-p-test.true in
    record {
      split =
          subst (IsSplit c.args.hub.now numbers (i + 1)) (sym c.split.ensures.steward)
          (split_more c.args.hub.now numbers i p c.loop-p.steward at c.loop-p.invariant.split);
      many = ap length c.in_ok-push.ensures.items ∙ length_push passes c.split.result ∙ ap (λ n. n + 1) c.loop-p.invariant.many;
      fresh =
          subst (AreFresh c.args.hub.now numbers) (sym (c.in_ok-push.ensures.items ∙ ap (λ (x : PassView). passes ++ x ∷ []) c.split.ensures.pass))
          (fresh_more c.args.hub.now numbers i p c.loop-p.steward passes at c.loop-p.invariant.split c.loop-p.invariant.fresh c.loop-p.invariant.many);
    }
