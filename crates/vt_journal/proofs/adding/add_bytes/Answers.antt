use Rattle.std.proofs.Common.{rules}
use Rattle.vt_journal.specs.Text.{Begins}
use Rattle.vt_journal.proofs.Texts.{begins_after, begins_more, begins_same}
use Rattle.vt_journal.proofs.adding.add_bytes.Goals as goal

pub returns-in_err-add_byte-clause-adds : goal.returns-in_err-add_byte-clause-adds
returns-in_err-add_byte-clause-adds c = search (rules, begins_same _ _ c.in_err-add_byte.ensures)

pub returns-in_err-add_hex-clause-adds : goal.returns-in_err-add_hex-clause-adds
returns-in_err-add_hex-clause-adds c =
    let begins : Begins c.args.text.now.bytes c.add_hex.new.text.bytes =
    begins_after _ _ _ (begins_more _ _ _ c.in_ok-add_byte.ensures) (begins_same _ _ c.in_err-add_hex.ensures) in
    search (rules, begins)
