use Rattle.std.proofs.Common.{arith, rules}
use Rattle.vt_world.specs.Typing.{uses}
use Rattle.vt_world.proofs.Users.{flags_more}
use Rattle.vt_world.proofs.world.World.users.Goals as goal

pub loop-p-preserved : goal.loop-p-preserved
loop-p-preserved c = record {
  places = search rules;
  flags =
      flags_more (uses c.args.self.now c.args.n) c.loop-p.users c.loop-p.p c.uses.result
      (omega (arith, c.loop-p.invariant.places, c.loop-p-test.true)) c.uses.ensures
      c.loop-p.invariant.flags;
}
