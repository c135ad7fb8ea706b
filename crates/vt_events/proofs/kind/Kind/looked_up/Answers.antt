use Rattle.std.proofs.Common.{◌≡◌, ◌≢◌, ℕ, ◌<◌, List, [], ◌∷◌, length, map, get_or, Contains, subst, sym, ap, ◌∙◌, arith}
use Rattle.std.proofs.lemmas.List.{get_or-map, length-map, take_all}
use Rattle.std.specs.List.{All}
use Rattle.vt_events.specs.Kinds.{name_of}
use Rattle.vt_events.specs.declared.forms.CallForm.{CallForm}
use Rattle.vt_events.specs.declared.kind.Kind.{Kind}
use Rattle.vt_events.proofs.kind.Kind.looked_up.Goals as goal

-- if each kind has a form, the name of a kind is in a form
none_named : (forms : List CallForm) (name : List ℕ) (k : Kind)
    → All (λ form. form.name.now ≡ name_of form.kind) forms
    → Contains (map (λ form. form.kind) forms) k → All (λ form. form.name.now ≢ name) forms
    → name_of k ≢ name
none_named [] name k names among none same = absurd (omega (arith, among.1))
none_named (first ∷ forms) name k names among none same =
    let all : List CallForm = first ∷ forms in
    let within : among.0 < length all = omega (arith, among.1, length-map all (λ (form : CallForm). form.kind)) in
    let form = get_or all among.0 first in
    let here : form.kind ≡ k =
    sym (get_or-map (λ (form : CallForm). form.kind) all among.0 first k within) ∙ among.2 in
    none among.0 first within (names among.0 first within ∙ ap name_of here ∙ same)

pub returns-clause-none : goal.returns-clause-none
returns-clause-none c =
    λ k.
    let forms = c.forms-form-items.result.now in
    none_named forms c.args.name.now k c.forms-form-items.ensures.names (c.forms-form-items.ensures.each k)
    (subst (All (λ (form : CallForm). form.name.now ≢ c.args.name.now))
    (take_all c.loop-form.form-index forms c.loop-form-test.false) c.loop-form.invariant)
