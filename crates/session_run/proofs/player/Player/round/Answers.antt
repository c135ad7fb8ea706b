use Rattle.std.proofs.Common.{◌≡◌, sym, ap, ◌∙◌, subst}
use Rattle.std.proofs.lemmas.List.{drop_all}
use Rattle.session_order.specs.Serial.{round, turns}
use Rattle.session_run.proofs.Turns.{round_is}
use Rattle.session_run.specs.Callers.{callers_in}
use Rattle.session_run.specs.Playing.{IsAt}
use Rattle.session_run.proofs.player.Player.round.Goals as goal

pub returns : goal.returns
returns g c = λ o t same at.
    let made = c.loop-p.invariant o t same at in
    let numbers = c.numbers-numbers.result.now in
    let over : made.0 ≡ turns o numbers t =
    ap (λ rest. turns o rest made.0) (sym (drop_all c.loop-p.p-index numbers c.loop-p-test.false)) ∙ made.2 in
    let is : turns o numbers t ≡ round o t =
    ap (λ callers. turns o callers t) (c.numbers-numbers.ensures ∙ ap callers_in (sym same)) ∙ round_is o t in
    subst (λ x. IsAt o x c.loop-p.self) (over ∙ is) made.1
