use Rattle.std.proofs.Common.{Ok, ap, sym, ◌∙◌}
use Rattle.std.proofs.lemmas.Result.{err_from_is_err_and}
use Rattle.key_text.proofs.Faults.{fails_as}
use Rattle.key_text.proofs.Symbols.{symbols_bad, symbols_end, symbols_more, symbols_unknown}
use Rattle.key_text.proofs.key_lines.symbols.Goals as goal

pub returns-in-None : goal.returns-in-None
returns-in-None c =
    symbols_end c.args.first c.args.items.now c.loop-turn.actions.items c.loop-turn.rest.now c.loop-turn._turn c.loop-turn.invariant c.loop-turn-test.true (sym c.in-None.ensures)
    ∙ ap Ok (sym c.of.ensures)

pub returns-in_err-word : goal.returns-in_err-word
returns-in_err-word c =
    let p = err_from_is_err_and c.from_residual-in_err-word.result c.from_residual-in_err-word.ensures.1 in
    rw (p.1, p.2) (fails_as _ _ _
    (λ f bad. symbols_bad c.args.first c.args.items.now c.loop-turn.actions.items c.loop-turn.rest.now c.loop-turn._turn c.loop-turn.invariant c.loop-turn-test.true _ f (sym c.in-Some.ensures) bad)
    c.in_err-word.ensures)

pub returns-in_err-action : goal.returns-in_err-action
returns-in_err-action c =
    let p = err_from_is_err_and c.from_residual-in_err-action.result c.from_residual-in_err-action.ensures.1 in
    rw (p.1, p.2) (fails_as _ _ _
    (λ f bad. symbols_unknown c.args.first c.args.items.now c.loop-turn.actions.items c.loop-turn.rest.now c.loop-turn._turn c.loop-turn.invariant c.loop-turn-test.true _ _ f (sym c.in-Some.ensures) c.in_ok-word.ensures bad)
    c.in_err-action.ensures)

pub loop-turn-preserved : goal.loop-turn-preserved
loop-turn-preserved c =
    symbols_more c.args.first c.args.items.now c.loop-turn.actions.items c.loop-turn.rest.now c.loop-turn._turn c.loop-turn.invariant c.loop-turn-test.true _ _ _ (sym c.in-Some.ensures) c.in_ok-word.ensures c.in_ok-action.ensures _ c.in_ok-push-2.ensures.items
