use Rattle.std.proofs.Common.{sym, subst, rules}
use Rattle.std.specs.Option.{IsSome}
use Rattle.turn_lock.proofs.Closes.{taken_out, closed}
use Rattle.turn_lock.proofs.lock.TurnLock.close.Goals as goal

pub unwrap-value-requires : goal.unwrap-value-requires
unwrap-value-requires g c =
    let last = c.shut-closed.ensures.last in let own = c.requires.own in
    let h = taken_out g.K.Kept.before g.K.Kept.entries g.K.Kept.seal g.K.Kept.right _ c.args.p.place.me.0 _ _
    own.1 own.0.1.1 c.requires.all last _ c.take.ensures.value in
    subst IsSome (sym h.1) (search rules)

pub returns : goal.returns
returns g c =
    let last = c.shut-closed.ensures.last in let own = c.requires.own in
    closed g.K.Kept.before g.K.Kept.entries g.K.Kept.seal g.K.Kept.right _ c.args.p.place.me.0 _ _
    own.1 own.0.1.1 c.requires.all last _ c.take.ensures.value c.unwrap-value.result (search rules)
