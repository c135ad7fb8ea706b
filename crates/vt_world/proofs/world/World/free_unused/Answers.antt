use Rattle.std.proofs.Common.{◌≡◌, ap, ◌∙◌, arith}
use Rattle.vt_world.specs.State.{WorldState}
use Rattle.vt_world.proofs.Freed.{freed_if_unused, frees_next, rest_kept}
use Rattle.vt_world.proofs.world.World.free_unused.Goals as goal

pub loop-n-preserved : goal.loop-n-preserved
loop-n-preserved c =
    let w : WorldState = c.args.self.now in
    let u : WorldState = c.loop-n.self in
    let v : WorldState = c.free_if_unused.new.self in
    let is : v ≡ freed_if_unused u c.loop-n.n =
    c.free_if_unused.ensures ∙ ap (freed_if_unused u) c.numbered.ensures in
    record {
      done =
          frees_next w u v c.loop-n.n c.loop-n-test.true
          (c.loop-n.invariant.rest c.loop-n.n (omega arith)) is
          ∙ c.loop-n.invariant.done;
      rest = rest_kept w u v c.loop-n.n c.loop-n.invariant.rest is;
    }
