use Rattle.std.proofs.Common.{decimal, arith}
use Rattle.session_run.proofs.FinalTexts.{display_pieces}
use Rattle.session_run.proofs.final_texts.add_display.Goals as goal

pub returns : goal.returns
returns c =
    display_pieces (decimal c.args.world.now.display.front) c.args.text.now.bytes
    c.add.new.text.bytes c.add_next.new.text.bytes c.add-2.new.text.bytes c.in_ok-add.ensures
    (grind arith) c.in_ok-add-2.ensures
