use Rattle.vt_journal.proofs.Once.{entry_spelling, tail_spelling}
use Rattle.vt_journal.proofs.OneSpelling.{cut_is}
use Rattle.vt_journal.proofs.parsing.read_line.Goals as goal

pub returns-in-None : goal.returns-in-None
returns-in-None c = (
  λ entry rest fit is.
      let none = rw c.in_default-2.is at c.in_ok-entry.ensures.finds in
      none entry fit
      (cut_is (entry_spelling c.args.version) c.args.text.now _ _ entry rest c.in-Some.ensures.found fit is),
  λ end rest fit is.
      c.in-None.ensures.finds end fit
      (cut_is tail_spelling c.args.text.now _ _ end rest c.in-Some.ensures.found fit is),
)
