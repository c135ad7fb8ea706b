use Rattle.vt_hub.proofs.Between.{Between}
use Rattle.vt_hub.proofs.hub.Hub.wait_end.Given as goal

abbrev pub invariant-loop : goal.invariant-loop
invariant-loop g l =
    (goal.iterator-loop g).can_next l.iterator' × (goal.iterator-loop g).is_finite l.iterator'
    × Between l.fn.p l.p
