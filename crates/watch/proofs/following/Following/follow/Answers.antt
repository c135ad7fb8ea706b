use Rattle.watch.proofs.following.Following.follow.Goals as goal

pub returns-in-Lines-clause-text : goal.returns-in-Lines-clause-text
returns-in-Lines-clause-text c =
    rw c.in-Lines.is
    (rw (
      c.as_slice.ensures,
      c.as_slice-in-Lines.ensures,
      c.as_slice-in-Lines-2.ensures,
      c.in_ok-facts.ensures.facts,
      c.in_ok-before.ensures,
      c.in_ok-after.ensures,
      c.in_ok-facts.ensures.since,
      c.in_ok-facts.ensures.world,
      c.in-Lines.is,
    )
    at c.add_lines.ensures)

pub returns-clause-text : goal.returns-clause-text
returns-clause-text c =
    rw c.in-Json.is
    (rw (
      c.as_slice-in-Json.ensures,
      c.as_slice-in-Json-2.ensures,
      c.in_ok-facts.ensures.facts,
      c.in_ok-after.ensures,
      c.in_ok-facts.ensures.since,
      c.in_ok-facts.ensures.world,
      c.in-Json.is,
    )
    at c.add_object.ensures)
