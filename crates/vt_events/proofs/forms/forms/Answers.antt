use Rattle.std.proofs.Common.{◌≡◌, Bool, true, List, nat_eq, sym}
use Rattle.std.specs.Cmp.Lexicographic.{pointwise, same_text}
use Rattle.std.specs.List.{All, list_all}
use Rattle.std.proofs.lemmas.List.Elements.{All-weaker}
use Rattle.std.proofs.lemmas.List.Sums.{AllPass-from_list_all}
use Rattle.vt_events.specs.Kinds.{name_of}
use Rattle.vt_events.specs.declared.forms.CallForm.{CallForm}
use Rattle.vt_events.proofs.Calls.{each_kind}
use Rattle.vt_events.proofs.forms.forms.Goals as goal

-- the name of a form is that of its kind
abbrev is_named : CallForm → Bool
is_named form = pointwise nat_eq form.name.now (name_of form.kind)

all_named : (forms : List CallForm) → list_all is_named forms ≡ true
    → All (λ form. form.name.now ≡ name_of form.kind) forms
all_named forms passes =
    All-weaker (λ form. is_named form ≡ true) (λ form. form.name.now ≡ name_of form.kind)
    (λ form same. same_text form.name.now (name_of form.kind) (sym same)) forms
    (AllPass-from_list_all is_named forms passes)

pub returns-clause-each : goal.returns-clause-each
returns-clause-each c = each_kind

pub returns-clause-names : goal.returns-clause-names
returns-clause-names c = search all_named
