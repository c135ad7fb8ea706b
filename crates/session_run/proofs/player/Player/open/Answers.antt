use Rattle.std.proofs.Common.{refl, ap, ◌∙◌}
use Rattle.session_order.specs.Meant.{plain_history}
use Rattle.session_order.specs.Sessions.{setup_of}
use Rattle.vt_world.proofs.Stated.{legal_grows-nothing}
use Rattle.session_run.proofs.player.Player.open.Goals as goal

pub returns : goal.returns
returns c = record {
  history = ap plain_history c.in_ok-log.ensures.entries;
  stop = refl;
  limits = c.in_ok-log.ensures.limits ∙ c.limits-limits.ensures.same;
  left = record {
    legal = legal_grows-nothing (setup_of c.args.s.now).start;
    replayed = c.in_ok-world.ensures;
  };
  standing = c.in_ok-standing.ensures (setup_of c.args.s.now).programs;
}
