use Rattle.std.proofs.Common.{inr, length, take, ◌-◌, ◌++◌, List, ℕ, ap, ◌∙◌}
use Rattle.std.proofs.lemmas.Bool.Decides.{Decides-eqb}
use Rattle.std.proofs.lemmas.Slice.Eq.{ends_is}
use Rattle.vt_tool.proofs.commands.cut.begins_line.Goals as goal

pub returns-else-is_empty-clause-yes : goal.returns-else-is_empty-clause-yes
returns-else-is_empty-clause-yes c = λ ends.
    let text = c.args.text.now in
    let end = c.as_slice.result.now in
    let before : List ℕ = take (length text - length end) text in
    inr (
      before,
      (ends_is Decides-eqb text end c.ends_with.result c.ends_with.ensures.value).0 ends
          ∙ ap (λ (bytes : List ℕ). before ++ bytes) c.as_slice.ensures,
    )
