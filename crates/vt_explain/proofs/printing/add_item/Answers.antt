use Rattle.std.proofs.Common.{decimal, arith}
use Rattle.vt_explain.proofs.Printed.{item_line}
use Rattle.vt_explain.specs.CertText.{cause_words}
use Rattle.vt_explain.proofs.printing.add_item.Goals as goal

pub returns-clause-ok : goal.returns-clause-ok
returns-clause-ok c =
    let w = c.args.w.now in
    item_line (decimal w.at) (decimal w.nth) (decimal w.from) (decimal w.to) (cause_words w.cause)
    c.args.text.now.bytes c.add_number.new.text.bytes c.add_next.new.text.bytes
    c.add_next-2.new.text.bytes c.add_next-3.new.text.bytes c.add_cause.new.text.bytes
    c.add.new.text.bytes (grind arith) (grind arith) (grind arith) (grind arith)
    c.in_ok-add_cause.ensures.ok c.in_ok-add.ensures
