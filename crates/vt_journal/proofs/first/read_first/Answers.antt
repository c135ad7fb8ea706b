use Rattle.std.proofs.Common.{◌++◌, ap, sym, ◌∙◌}
use Rattle.vt_journal.proofs.Firsts.{first_line, no_first, second_line}
use Rattle.vt_journal.proofs.first.read_first.Goals as goal

pub returns-in-Some-clause-found : goal.returns-in-Some-clause-found
returns-in-Some-clause-found c =
    c.in-Some.ensures ∙ ap (λ line. line ++ c.in-Some.behind.now) (sym first_line)

pub returns-in-Some-behind_line-clause-found : goal.returns-in-Some-behind_line-clause-found
returns-in-Some-behind_line-clause-found c =
    c.in-Some-behind_line.ensures ∙ ap (λ line. line ++ c.in-Some-behind_line.behind.now) (sym second_line)

pub returns-in-None-clause-none : goal.returns-in-None-clause-none
returns-in-None-clause-none c = no_first c.args.text.now c.in_default.ensures c.in-None.ensures
