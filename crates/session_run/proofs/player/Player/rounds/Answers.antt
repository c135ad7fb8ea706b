use Rattle.std.proofs.Common.{◌≡◌, ◌+◌, arith, length, refl, sym, ap, ◌∙◌, subst}
use Rattle.session_order.proofs.Stated.{serial_laws-ends, serial_laws-goes_on, serial_laws-stays, serial_laws-sum}
use Rattle.session_order.specs.Serial.{Played, nothing_played, round, rounds, turns}
use Rattle.session_run.proofs.Ends.{round_stays, round_stops}
use Rattle.session_run.specs.Playing.{IsAt}
use Rattle.session_run.proofs.player.Player.rounds.Goals as goal

pub loop-round-preserved : goal.loop-round-preserved
loop-round-preserved g c = λ o t same at.
    subst (λ x. IsAt o x c.round.new.self) (sym (serial_laws-sum o c.loop-round._round 1 t))
    (c.in_ok-round.ensures o (rounds o c.loop-round._round t) same (c.loop-round.invariant o t same at))

pub returns-then-is_some : goal.returns-then-is_some
returns-then-is_some g c = λ o first start same events at.
    let t : Played = rounds o c.loop-round._round (turns o first nothing_played) in
    let old : IsAt o t c.loop-round.self = c.loop-round.invariant o (turns o first nothing_played) same at in
    let new : IsAt o (round o t) c.round.new.self = c.in_ok-round.ensures o t same old in
    round_stops serial_laws-sum o first c.loop-round._round (round o t) c.round.new.self refl new
    (sym c.is_some.ensures ∙ c.if-is_some.true)

pub returns-then-entries-before : goal.returns-then-entries-before
returns-then-entries-before g c = λ o first start same events at.
    let t : Played = rounds o c.loop-round._round (turns o first nothing_played) in
    let old : IsAt o t c.loop-round.self = c.loop-round.invariant o (turns o first nothing_played) same at in
    let new : IsAt o (round o t) c.round.new.self = c.in_ok-round.ensures o t same old in
    round_stays serial_laws-stays serial_laws-sum serial_laws-goes_on o first c.loop-round._round t (round o t)
    c.loop-round.self c.round.new.self start refl refl old new
    (ap length (sym c.entries.ensures.same) ∙ c.if-entries-before.true ∙ ap length c.entries-before.ensures.same)

pub returns : goal.returns
returns g c = λ o first start same events at.
    let begun : Played = turns o first nothing_played in
    let count : c.loop-round._round ≡ o.limits.events + 1 =
    omega (arith, events, c.loop-round-test.false, c.loop-round.auto._round-end) in
    let old : IsAt o (rounds o c.loop-round._round begun) c.loop-round.self = c.loop-round.invariant o begun same at in (
      rounds o (o.limits.events + 1) begun,
      serial_laws-ends o first start,
      subst (λ k. IsAt o (rounds o k begun) c.loop-round.self) count old,
    )
