use Rattle.vt_journal.proofs.Saying.{one_journal, printed_is_read}
use Rattle.vt_journal.proofs.laws.one_journal.Goals as goal

pub returns : goal.returns
returns c = record { one = one_journal; printed = printed_is_read }
