use Rattle.std.proofs.Common.{rules}
use Rattle.vt_journal.proofs.Texts.{begins_same}
use Rattle.vt_journal.proofs.printing.add_name.Goals as goal

pub returns-in_err-add : goal.returns-in_err-add
returns-in_err-add c = search (rules, begins_same _ _ c.in_err-add.ensures)
