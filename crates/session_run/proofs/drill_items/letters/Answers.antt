use Rattle.std.proofs.Common.{◌≡◌, ◌+◌, [], ap, arith}
use Rattle.session_run.proofs.Drilling.{all, begin, more}
use Rattle.session_run.proofs.drill_items.letters.Goals as goal

pub loop-i-init : goal.loop-i-init
loop-i-init c = record {
  drawn = begin c.in_ok-letters.ensures.bytes;
  room = omega (arith, c.in_ok-letters.ensures.room);
}

pub loop-i-preserved : goal.loop-i-preserved
loop-i-preserved c = record {
  drawn =
      more c.loop-i.invariant.drawn (ap (λ b. 32 + b) c.below.ensures.value) c.below.ensures.next
      c.push.ensures.bytes;
  room = omega (arith, c.push.ensures.room, c.loop-i.invariant.room);
}

pub returns-clause-value : goal.returns-clause-value
returns-clause-value c =
    let end : c.loop-i._i ≡ c.args.n = omega (arith, c.loop-i-test.false, c.loop-i.auto._i-end) in
    let drawn = all end c.loop-i.invariant.drawn in
    let none : c.loop-i.letters.room ≡ 0 = omega (arith, end, c.loop-i.invariant.room) in
    λ j. record { bytes = drawn.values j; room = none j }

pub returns-clause-next : goal.returns-clause-next
returns-clause-next c =
    let end : c.loop-i._i ≡ c.args.n = omega (arith, c.loop-i-test.false, c.loop-i.auto._i-end) in
    (all end c.loop-i.invariant.drawn).last
