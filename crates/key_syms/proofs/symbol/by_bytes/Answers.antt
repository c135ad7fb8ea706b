use Rattle.std.proofs.Common.{◌∙◌, Some, ap, sym}
use Rattle.std.specs.Option.{option_or}
use Rattle.key_syms.specs.Names.{symbol, unlisted_action}
use Rattle.key_syms.proofs.Rows.{listed_action_found, listed_action_missing}
use Rattle.key_syms.proofs.symbol.by_bytes.Goals as goal

pub returns-in-Some : goal.returns-in-Some
unfolding symbol
returns-in-Some c =
    let name = c.args.name.now in
    ap Some c.action_at.ensures
    ∙ sym (ap (λ x. option_or x (unlisted_action name)) (listed_action_found name _ c.in-Some.ensures.found.0 c.in-Some.ensures.found.1))

pub returns-in-None : goal.returns-in-None
unfolding symbol
returns-in-None c =
    let name = c.args.name.now in
    c.unlisted_action.ensures ∙ sym (ap (λ x. option_or x (unlisted_action name)) (listed_action_missing name c.in-None.ensures.missing))
