use Rattle.session_order.proofs.Stated.{meant_laws-ends, meant_laws-follows, meant_laws-legal, meant_laws-replay, serial_laws-right}
use Rattle.session_order.specs.Sessions.{setup_of}
use Rattle.session_run.proofs.Ends.{run_right, run_serial}
use Rattle.session_run.proofs.player.Player.end.Goals as goal

pub returns-clause-serial : goal.returns-clause-serial
returns-clause-serial c = run_serial (setup_of c.args.s.now) c.args.s.now.turns c.args.self c.requires

pub returns-clause-right : goal.returns-clause-right
returns-clause-right c =
    run_right serial_laws-right meant_laws-replay meant_laws-legal
    meant_laws-follows meant_laws-ends c.args.s.now c.session_laws.ensures.right c.args.self c.requires
