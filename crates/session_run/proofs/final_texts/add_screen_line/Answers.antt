use Rattle.std.proofs.Common.{◌++◌, codes, arith}
use Rattle.session_run.proofs.FinalTexts.{numbers_all, numbers_line, numbers_more, numbers_text}
use Rattle.session_run.proofs.final_texts.add_screen_line.Goals as goal

pub loop-n-preserved : goal.loop-n-preserved
loop-n-preserved c =
    numbers_more c.args.numbers.now c.loop-n.n-index c.loop-n.text.bytes c.add_next.new.text.bytes
    (c.add.new.text.bytes ++ numbers_text c.args.numbers.now) c.loop-n-test.true (grind arith)
    c.loop-n.invariant

pub returns : goal.returns
returns c =
    numbers_line (codes "%screen") c.args.numbers.now c.args.text.now.bytes c.add.new.text.bytes
    c.loop-n.text.bytes c.add-2.new.text.bytes c.in_ok-add.ensures
    (numbers_all c.args.numbers.now c.loop-n.n-index c.loop-n.text.bytes _ c.loop-n-test.false
    c.loop-n.invariant)
    c.in_ok-add-2.ensures
