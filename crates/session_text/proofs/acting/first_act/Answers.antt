use Rattle.std.proofs.Common.{sym, ap, ◌∙◌, ◌++◌, ◌+◌, option_to_list, arith}
use Rattle.session_text.specs.Programs.{act_call, calls_from}
use Rattle.session_text.proofs.Acts.{calls_from_end, calls_from_first, calls_from_none, calls_from_past}
use Rattle.session_text.proofs.acting.first_act.Goals as goal

pub returns-in_default-clause-none : goal.returns-in_default-clause-none
returns-in_default-clause-none g c =
    let table = g.H.Asks.acts c.args.hooks.now in
    sym c.loop-at.invariant.1
    ∙ calls_from_none table c.args.given c.loop-at.at c.loop-at-test.true c.in_default.ensures.none

pub returns-then-not-is_nothing-clause-found : goal.returns-then-not-is_nothing-clause-found
returns-then-not-is_nothing-clause-found g c =
    let table = g.H.Asks.acts c.args.hooks.now in
    let act = c.ask_for-act.result in
    sym c.loop-at.invariant.1
    ∙ calls_from_first table c.args.given c.loop-at.at c.in-Some.signal act c.in-Some.ensures.found
    (omega (arith, c.get.ensures.same, c.get.ensures.high)) c.ask_for-act.ensures
    ∙ ap (λ n. option_to_list (act_call act) ++ calls_from table c.args.given (n + 1))
    (sym c.get.ensures.same)

pub loop-at-preserved : goal.loop-at-preserved
loop-at-preserved g c =
    let table = g.H.Asks.acts c.args.hooks.now in (
      omega arith,
      ap (λ n. calls_from table c.args.given (n + 1)) c.get-at.ensures.same
          ∙ calls_from_past table c.args.given c.loop-at.at c.in-Some.signal c.ask_for-act.result
          c.in-Some.ensures.found (omega (arith, c.get-at.ensures.same, c.get-at.ensures.high))
          c.ask_for-act.ensures (sym c.is_nothing.ensures ∙ c.if-not-is_nothing.false)
          ∙ c.loop-at.invariant.1,
    )

pub returns-clause-none : goal.returns-clause-none
returns-clause-none g c =
    let table = g.H.Asks.acts c.args.hooks.now in
    sym c.loop-at.invariant.1
    ∙ calls_from_end table c.args.given c.loop-at.at (omega (arith, c.loop-at-test.false))
