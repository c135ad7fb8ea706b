use Rattle.std.proofs.Common.{[], ◌∷◌, codes, decimal}
use Rattle.vt_journal.specs.Journal.{line_text}
use Rattle.session_run.proofs.FinalTexts.{final_pieces}
use Rattle.session_run.specs.Final.{consoles_text}
use Rattle.session_run.proofs.final_texts.add_final_text.Goals as goal

pub returns : goal.returns
returns c =
    final_pieces (line_text (codes "%display" ∷ decimal c.args.world.now.display.front ∷ []))
    (consoles_text c.args.world.now 1 63) c.args.text.now.bytes c.add_display.new.text.bytes
    c.add_consoles.new.text.bytes c.add.new.text.bytes c.in_ok-add_display.ensures
    c.in_ok-add_consoles.ensures c.in_ok-add.ensures
