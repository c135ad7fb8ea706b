use Rattle.vt_chars.proofs.for_laws.Cutting.{byte_more}
use Rattle.vt_chars.proofs.laws.byte_more.Goals as goal

pub returns : goal.returns
returns c = byte_more
