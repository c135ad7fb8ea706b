use Rattle.std.proofs.Common.{arith}
use Rattle.key_machine.specs.Keys.{weight_of}
use Rattle.key_machine.proofs.Counting.{weighs_counted}
use Rattle.key_machine.proofs.held.HeldKeys.weight.Goals as goal

pub returns : goal.returns
unfolding weight_of
returns c =
    let e0 = weighs_counted c.self.inside.entries c.self.inside.counts 0 c.self.invariant (omega arith) in
    let e1 = weighs_counted c.self.inside.entries c.self.inside.counts 1 c.self.invariant (omega arith) in
    let e2 = weighs_counted c.self.inside.entries c.self.inside.counts 2 c.self.invariant (omega arith) in
    let e3 = weighs_counted c.self.inside.entries c.self.inside.counts 3 c.self.invariant (omega arith) in
    let e4 = weighs_counted c.self.inside.entries c.self.inside.counts 4 c.self.invariant (omega arith) in
    let e5 = weighs_counted c.self.inside.entries c.self.inside.counts 5 c.self.invariant (omega arith) in
    let e6 = weighs_counted c.self.inside.entries c.self.inside.counts 6 c.self.invariant (omega arith) in
    let e7 = weighs_counted c.self.inside.entries c.self.inside.counts 7 c.self.invariant (omega arith) in
    cc
