use Rattle.std.proofs.Common.{rules}
use Rattle.turn_lock.proofs.Steps.{joins_ok}
use Rattle.turn_lock.proofs.lock.TurnLock.take_in.Goals as goal

pub join_seat-requires : goal.join_seat-requires
join_seat-requires g c = (
  search rules,
  search rules,
  search rules,
  search rules,
  joins_ok g.K.Kept.before g.K.Kept.entries g.K.Kept.seal g.K.Kept.right _ _ _ _ c.requires.own.1 c.requires.own.0.1.1
      c.requires.numbered c.requires.other.1.1,
)
