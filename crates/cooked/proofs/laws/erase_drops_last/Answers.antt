use Rattle.cooked.proofs.KeptLaws.{kept_erase}
use Rattle.vt_chars.proofs.Stated.{ascii_cuts}
use Rattle.cooked.proofs.laws.erase_drops_last.Goals as goal

pub returns : goal.returns
returns c t bytes low = kept_erase ascii_cuts t.erase bytes low
