use Rattle.vt_hub.specs.Carrying.{display_of}
use Rattle.vt_hub.proofs.Opens.{keeps_none}
use Rattle.vt_hub.proofs.hub.Hub.open.Goals as goal

pub invariant_of-result-2 : goal.invariant_of-result-2
invariant_of-result-2 g c =
    keeps_none (display_of g.J.Opening.start) c.in_ok-lock.place c.in_ok-lock.ensures.0.1
    c.in_ok-lock.ensures.1
