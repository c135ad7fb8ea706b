use Rattle.std.proofs.Common.{◌≡◌, ℕ, ◌^◌, ◌<◌, false, subst, rules}
use Rattle.turn_lock.specs.Views.{among, made_of}
use Rattle.turn_lock.proofs.Steps.{splits_ok}
use Rattle.turn_lock.proofs.lock.TurnLock.split_as.Goals as goal

pub split_seat-place-requires : goal.split_seat-place-requires
split_seat-place-requires g c =
    let v = c.args.p.now.place.me.0 in
    let small : g.J.Picked.number < 2 ^ 32 = subst (λ (n : ℕ). n < 2 ^ 32) c.requires.picked
    c.ranges.number.fits in
    let fresh : among g.J.Picked.number
    (made_of v.role) ≡ false = subst (λ (n : ℕ). among n (made_of v.role) ≡ false)
    c.requires.picked c.requires.fresh in (
      search rules,
      search rules,
      splits_ok g.K.Kept.before g.K.Kept.entries g.K.Kept.seal g.K.Kept.right _ v _
          c.requires.own.1 c.requires.own.0.1.1 small fresh,
    )
