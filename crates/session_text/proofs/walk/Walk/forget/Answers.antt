use Rattle.std.proofs.Common.{sym, ap, ◌∙◌, subst}
use Rattle.session_text.specs.Walks.{Place, Stands}
use Rattle.session_text.proofs.Forgetting.{over_stays}
use Rattle.session_text.proofs.walk.Walk.forget.Goals as goal

pub returns-then-self-clause-stands : goal.returns-then-self-clause-stands
returns-then-self-clause-stands c =
    λ made.
    over_stays c.args.p.now c.args.self.now _ made
    (ap (λ (w : Place). w.over) (sym c.self.view_is) ∙ c.if-self.true) c.if-self.true

pub returns-in-Script-clause-stands : goal.returns-in-Script-clause-stands
returns-in-Script-clause-stands c = λ made stands.
    subst (λ p. Stands p c.keep_left.new.self made) (sym c.in-Script.is)
    (c.keep_left.ensures.stands c.in-Script.items made
    (subst (λ p. Stands p c.args.self.now made) c.in-Script.is stands))
