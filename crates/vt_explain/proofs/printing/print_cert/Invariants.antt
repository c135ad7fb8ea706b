use Rattle.std.proofs.Common.{◌≡◌, ◌++◌, length, take}
use Rattle.std.specs.List.{All}
use Rattle.vt_explain.specs.CertText.{IsFit, head_words, item_lines}
use Rattle.vt_journal.specs.Journal.{line_text}
use Rattle.vt_explain.proofs.printing.print_cert.Given as goal

abbrev pub invariant-loop-w : goal.invariant-loop-w
invariant-loop-w l = record {
  lines : l.text.bytes ≡ line_text (head_words (length l.c)) ++ item_lines (take l.w-index l.c);
  fit : All IsFit (take l.w-index l.c);
}
