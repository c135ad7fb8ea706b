use Rattle.std.proofs.Common.{sym, ◌∙◌, subst}
use Rattle.std.proofs.lemmas.Bool.{iff_false}
use Rattle.vt_check.specs.Verdicts.{EndFails}
use Rattle.vt_check.specs.Verdicts.EndFails.{Differs, NoStop, NotOver}
use Rattle.vt_check.proofs.judge.Judge.judge_end.Goals as goal

pub returns-then-not-branch-clause-fails : goal.returns-then-not-branch-clause-fails
returns-then-not-branch-clause-fails c = λ o h at.
    subst (λ end. EndFails o h end 4) (sym c.in-End.is)
    (NotOver c.in-End.events c.in-End.bytes (c.in_ok-are_over-in-End.ensures o h at ∙ c.if-not-branch.true))

pub returns-then-not-has_numbers-clause-fails : goal.returns-then-not-has_numbers-clause-fails
returns-then-not-has_numbers-clause-fails c = λ o h at.
    subst (λ end. EndFails o h end 5) (sym c.in-End.is)
    (Differs c.in-End.events c.in-End.bytes (c.in_ok-are_over-in-End.ensures o h at ∙ c.if-not-branch.false)
    (λ finishes.
    iff_false c.has_numbers.ensures c.if-not-has_numbers.true
    (finishes.entries ∙ sym at.events, finishes.charge ∙ sym at.bytes)))

pub returns-then-not-branch-2-clause-fails : goal.returns-then-not-branch-2-clause-fails
returns-then-not-branch-2-clause-fails c = λ o h at.
    subst (λ end. EndFails o h end 5) (sym c.in-Full.is)
    (NoStop c.in-Full.full (iff_false (c.in_ok-stops-in-Full.ensures o h at) c.if-not-branch-2.true))
