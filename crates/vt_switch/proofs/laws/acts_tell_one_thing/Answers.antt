use Rattle.vt_switch.proofs.for_laws.Due.{hops_are_due}
use Rattle.vt_switch.proofs.for_laws.Marks.{hops_of_marks}
use Rattle.vt_switch.proofs.for_laws.Told.{one_news_is_told}
use Rattle.vt_switch.proofs.laws.acts_tell_one_thing.Goals as goal

pub returns-clause-due : goal.returns-clause-due
returns-clause-due c = hops_are_due

pub returns-clause-hop : goal.returns-clause-hop
returns-clause-hop c = hops_of_marks

pub returns-clause-news : goal.returns-clause-news
returns-clause-news c = one_news_is_told
