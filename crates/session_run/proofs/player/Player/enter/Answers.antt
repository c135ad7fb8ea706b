use Rattle.std.proofs.Common.{arith, length, refl, ap}
use Rattle.session_order.proofs.Stated.{meant_laws-plain}
use Rattle.session_run.proofs.Plays.{Enters, entered}
use Rattle.session_run.specs.declared.player.Player.{Player}
use Rattle.vt_world.proofs.Stated.{legal_grows-entered}
use Rattle.session_run.proofs.player.Player.enter.Goals as goal

pub returns : goal.returns
returns c = λ o t is going now at.
    let after : Player = record {
      world = c.call.new.self;
      log = c.push_counted.new.self;
      standing = c.took.new.self;
      stop = c.args.self.now.stop;
    } in
    let enters : Enters c.args.p c.args.event c.args.program.now c.args.self.now after = record {
      seq = c.count-seq.result;
      reply = c.in_ok-reply.reply;
      few = omega (arith, ap length c.entries-entries.ensures.same, c.entries-entries.ensures.most);
      stepped = c.in_ok-reply.ensures.ok;
      logged = c.push_counted.ensures;
      numbered = c.count-seq.ensures;
      took = c.took.ensures;
      stop = refl;
    } in
    entered meant_laws-plain legal_grows-entered o t c.args.p c.args.event c.args.program.now
    c.args.self.now after enters is going now at
