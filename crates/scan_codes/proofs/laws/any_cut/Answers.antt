use Rattle.scan_codes.proofs.Reading.{events-append}
use Rattle.scan_codes.proofs.laws.any_cut.Goals as goal

pub returns : goal.returns
returns c = events-append
