use Rattle.std.proofs.Common.{rules}
use Rattle.vt_journal.specs.Text.{Begins}
use Rattle.vt_journal.proofs.Texts.{begins_after, begins_more, begins_same}
use Rattle.vt_journal.proofs.printing.add_one.Goals as goal

pub returns-in_err-add : goal.returns-in_err-add
returns-in_err-add c = search (rules, begins_same _ _ c.in_err-add.ensures)

pub returns-in_err-add_next : goal.returns-in_err-add_next
returns-in_err-add_next c =
    let begins : Begins c.args.text.now.bytes c.add_next.new.text.bytes =
    begins_after _ _ _ (begins_more _ _ _ c.in_ok-add.ensures) (begins_same _ _ c.in_err-add_next.ensures) in
    search (rules, begins)
