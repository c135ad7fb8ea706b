use Rattle.vt_journal.specs.Says.JournalSays.{NoFirst}
use Rattle.vt_journal.proofs.parsing.read_journal.Goals as goal

pub returns-in-None : goal.returns-in-None
returns-in-None c = rw c.refused.ensures (NoFirst c.in-None.ensures.none)
