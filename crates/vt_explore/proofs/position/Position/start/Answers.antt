use Rattle.std.proofs.Common.{ap}
use Rattle.vt_world.specs.State.{WorldState}
use Rattle.session_order.specs.Sessions.{setup_of}
use Rattle.vt_explore.proofs.position.Position.start.Goals as goal

pub returns : goal.returns
returns c = record {
  replayed = c.in_ok-world.ensures;
  standing = c.in_ok-standing.ensures (setup_of c.args.s.now).programs;
  tables = λ unset. ap (λ (w : WorldState). w.board.tables) c.in_ok-world.ensures;
}
