use Rattle.vt_journal.proofs.Spellings.{cut_parts, spelled_once}
use Rattle.vt_journal.proofs.laws.one_call.Goals as goal

pub returns : goal.returns
returns c = record { one = spelled_once; cut = cut_parts }
