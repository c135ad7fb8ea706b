use Rattle.vt_screen.proofs.for_laws.Asking.{requests_are_few}
use Rattle.vt_screen.proofs.laws.requests_are_few.Goals as goal

pub returns : goal.returns
returns c = requests_are_few
