use Rattle.std.proofs.Common.{drop, length, sym, subst, ◌∙◌, ◌≡◌, ◌++◌, true≢false, ap, is_some, List, ℕ}
use Rattle.std.proofs.lemmas.Bool.Decides.{Decides-eqb}
use Rattle.std.proofs.lemmas.Slice.Eq.{starts_is}
use Rattle.vt_journal.specs.Says.{HasFirst}
use Rattle.vt_tool.specs.Commands.Cut.{HasMark, cert_mark}
use Rattle.vt_tool.specs.declared.commands.cut.CutMark.{CutMark}
use Rattle.vt_tool.proofs.commands.cut.has_mark.Goals as goal

pub returns-in-Certificate-clause-yes : goal.returns-in-Certificate-clause-yes
returns-in-Certificate-clause-yes c = λ starts.
    let text : List ℕ = c.args.text.now in
    subst (λ (what : CutMark). HasMark what text) (sym c.in-Certificate.is)
    (drop (length cert_mark) text, (starts_is Decides-eqb text cert_mark c.starts_with.result c.starts_with.ensures.value).0 starts)

pub returns-in-Certificate-clause-no : goal.returns-in-Certificate-clause-no
returns-in-Certificate-clause-no c = λ not has.
    let text : List ℕ = c.args.text.now in
    let found : (rest : List ℕ) × (text ≡ cert_mark ++ rest) =
    subst (λ (what : CutMark). HasMark what text) c.in-Certificate.is has in
    true≢false
    (sym ((starts_is Decides-eqb text cert_mark c.starts_with.result c.starts_with.ensures.value).1 found.0 found.1)
    ∙ not)

pub returns-in-Journal-clause-no : goal.returns-in-Journal-clause-no
returns-in-Journal-clause-no c = λ not has.
    let text : List ℕ = c.args.text.now in
    let found : (version : ℕ) × HasFirst version text =
    subst (λ (what : CutMark). HasMark what text) c.in-Journal.is has in
    true≢false
    (sym (c.is_some.ensures ∙ ap is_some (c.version_of.ensures.one found.0 found.1)) ∙ not)
