use Rattle.scan_codes.proofs.Reading.{events_groups}
use Rattle.scan_codes.proofs.laws.groups_are_read.Goals as goal

pub returns : goal.returns
returns c = events_groups
