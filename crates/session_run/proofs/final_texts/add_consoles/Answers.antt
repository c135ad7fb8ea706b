use Rattle.std.proofs.Common.{◌++◌, arith}
use Rattle.session_run.proofs.FinalTexts.{consoles_more}
use Rattle.session_run.specs.Final.{consoles_text}
use Rattle.session_run.proofs.final_texts.add_consoles.Goals as goal

pub loop-n-preserved : goal.loop-n-preserved
loop-n-preserved c =
    consoles_more c.args.world.now c.loop-n.n c.loop-n.text.bytes c.add_console_part.new.text.bytes
    (c.args.text.now.bytes ++ consoles_text c.args.world.now 1 63) (omega arith)
    c.in_ok-add_console_part.ensures c.loop-n.invariant
