use Rattle.vt_world.proofs.Writes.{write_has}
use Rattle.vt_world.proofs.world.World.write.Goals as goal

pub returns : goal.returns
returns c =
    write_has c.args.self.now c.args.p c.args.fd c.args.b.now c.in_ok-c.c
    c.as_slice-text.result.now c.run.new.self c.in_ok-c.ensures.open c.as_slice-text.ensures
    c.in_ok-check_sense.ensures.sense c.run.ensures
