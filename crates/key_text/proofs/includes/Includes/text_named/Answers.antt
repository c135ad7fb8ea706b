use Rattle.std.proofs.Common.{◌<◌, ◌∙◌, Some, ap, sym, length, subst, List, []}
use Rattle.key_text.specs.Included.{Named, make_named, text_named}
use Rattle.key_text.specs.Places.{text_in}
use Rattle.key_text.proofs.Naming.{stands_at, stands_nowhere}
use Rattle.key_text.proofs.includes.Includes.text_named.Goals as goal

pub text_at-requires : goal.text_at-requires
text_at-requires c =
    let stands = stands_at c.self.inside.texts.items c.args.name.now c.in-Some.place (make_named [] []) (sym (c.self.invariant c.args.name.now) ∙ sym c.place_named.ensures ∙ c.in-Some.is) in
    subst (λ (texts : List Named). c.in-Some.place < length texts) (sym c.as_slice.ensures.value) stands.within

pub returns-in-Some : goal.returns-in-Some
returns-in-Some c =
    let stands = stands_at c.self.inside.texts.items c.args.name.now c.in-Some.place (make_named [] []) (sym (c.self.invariant c.args.name.now) ∙ sym c.place_named.ensures ∙ c.in-Some.is) in
    ap Some (c.text_at.ensures ∙ ap (λ (texts : List Named). text_in texts c.in-Some.place) c.as_slice.ensures.value)
    ∙ sym stands.text
    ∙ ap (λ (texts : List Named). text_named c.args.name.now texts) c.self.view_is

pub returns-in-None : goal.returns-in-None
returns-in-None c =
    sym (stands_nowhere c.self.inside.texts.items c.args.name.now (sym (c.self.invariant c.args.name.now) ∙ sym c.place_named.ensures ∙ c.in-None.is))
    ∙ ap (λ (texts : List Named). text_named c.args.name.now texts) c.self.view_is
