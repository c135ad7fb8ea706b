use Rattle.std.proofs.Common.{◌≡◌, ◌++◌, drop}
use Rattle.session_run.proofs.FinalTexts.{numbers_text}
use Rattle.session_run.proofs.final_texts.add_screen_line.Given as goal

abbrev pub invariant-loop-n : goal.invariant-loop-n
invariant-loop-n l =
    l.text.bytes ++ numbers_text (drop l.n-index l.numbers)
    ≡ l.initial.text.bytes ++ numbers_text l.numbers
