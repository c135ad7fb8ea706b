use Rattle.std.proofs.Common.{[], length}
use Rattle.vt_explain.specs.CertText.{IsFit, head_words, item_words}
use Rattle.vt_journal.proofs.Lines.{all_more, piece_more}
use Rattle.vt_journal.specs.Journal.{line_text}
use Rattle.vt_explain.proofs.printing.print_cert.Goals as goal

pub loop-w-preserved : goal.loop-w-preserved
loop-w-preserved c = record {
  lines =
      piece_more line_text item_words (line_text (head_words (length c.args.c.now))) [] c.args.c.now c.loop-w.w-index
      c.w-item.result c.w-item.result c.loop-w.text.bytes c.add_item.new.text.bytes c.loop-w-test.true c.w-item.is
      c.loop-w.invariant.lines c.in_ok-add_item.ensures.ok;
  fit =
      all_more IsFit c.args.c.now c.loop-w.w-index c.w-item.result c.loop-w-test.true c.w-item.is
      c.loop-w.invariant.fit c.in_ok-add_item.ensures.fit;
}
