use Rattle.std.proofs.Common.{◌≡◌, ◌-◌, arith, List, [], get_or, sym, ap, subst, ◌∙◌}
use Rattle.std.proofs.lemmas.List.{get_or_default}
use Rattle.session_text.specs.Walks.{HasActs}
use Rattle.sig_hooks.specs.declared.act.Act.{Act}
use Rattle.session_run.proofs.callers.Callers.get.Goals as goal

pub index-requires : goal.index-requires
index-requires g c =
    let hook = c.self.invariant.hooks c.args.p c.in_ok-program.program.now (sym c.in_ok-program.ensures) (sym c.in-None.ensures.number) in
    omega (arith, hook.0, c.get.ensures.same, c.from.ensures, c.self.inside.hooks.ok.0)

pub invariant_of-result-in-None : goal.invariant_of-result-in-None
invariant_of-result-in-None g c =
    let hook = c.self.invariant.hooks c.args.p c.in_ok-program.program.now (sym c.in_ok-program.ensures) (sym c.in-None.ensures.number) in
    let tables : List (List Act) = c.self.inside.hooks.items in
    let is : c.index.result.now ≡ get_or tables (c.args.p - 1) [] =
    c.index.ensures
    ∙ ap (λ n. get_or tables (n - 1) c.index.result.now) (c.from.ensures ∙ c.get.ensures.same)
    ∙ get_or_default tables (c.args.p - 1) c.index.result.now [] hook.0 in
    subst (HasActs c.in_ok-program.program.now) (sym is) hook.1
