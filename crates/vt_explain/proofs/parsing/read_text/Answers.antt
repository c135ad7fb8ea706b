use Rattle.vt_explain.specs.CertText.CertSays.{BadHead}
use Rattle.vt_explain.proofs.parsing.read_text.Goals as goal

pub returns-in-None : goal.returns-in-None
returns-in-None c = BadHead c.in-None.ensures.none
