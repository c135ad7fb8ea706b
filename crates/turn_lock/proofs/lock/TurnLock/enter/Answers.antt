use Rattle.std.proofs.Common.{rules}
use Rattle.turn_lock.proofs.Steps.{draws_ok}
use Rattle.turn_lock.proofs.lock.TurnLock.enter.Goals as goal

pub fetch_add-ticket-requires : goal.fetch_add-ticket-requires
fetch_add-ticket-requires g
    c = (
      search rules,
      search rules,
      draws_ok g.K.Kept.before g.K.Kept.entries g.K.Kept.seal g.K.Kept.right _ _ _
          c.requires.1.1 c.requires.1.2,
    )
