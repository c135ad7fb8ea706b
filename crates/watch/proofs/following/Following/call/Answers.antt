use Rattle.watch.proofs.following.Following.call.Goals as goal

pub returns-clause-facts : goal.returns-clause-facts
returns-clause-facts c =
    rw c.in_ok-_reply.ensures.ok
    (rw (
      c.in_ok-facts.ensures,
      c.hops-switches.ensures,
      c.trace.ensures.marks,
      c.as_slice.ensures.value,
      c.in_ok-waits.ensures,
    )
    at c.in_ok-add_waits.ensures)
