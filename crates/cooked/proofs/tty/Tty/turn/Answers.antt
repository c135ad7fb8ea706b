use Rattle.std.proofs.Common.{subst}
use Rattle.cooked.proofs.TurnLaws.{typed_turn}
use Rattle.cooked.proofs.tty.Tty.turn.Goals as goal
use Rattle.cooked.specs.Cooked.{Typing}
use Rattle.cooked.specs.Turn.{Reads, Turns}

pub returns-in-Ok-clause-ok : goal.returns-in-Ok-clause-ok
returns-in-Ok-clause-ok g c =
    subst
    (λ (v : Typing). Turns g.J.Opening.start c.args.fd v c.push-given.new.self
    (record { given = c.push-given.result; stop = c.write_echo-stop.result }) c.args.pass.now c.write_echo-stop.new.pass)
    c.self.view_is
    (typed_turn g.J.Opening.start c.args.fd c.self.inside.cooked c.push-given.new.self
    (record { given = c.push-given.result; stop = c.write_echo-stop.result })
    c.args.pass.now c.read_byte.new.pass c.write_echo-stop.new.pass c.in-Ok.b c.push-given.new.echo
    (subst (Reads g.J.Opening.start c.args.fd c.args.pass.now c.read_byte.new.pass) c.in-Ok.is c.in_ok-read.ensures.ok)
    c.push-given.ensures.termios c.push-given.ensures.fresh c.push-given.ensures.line
    c.push-given.ensures.given c.push-given.ensures.echo c.write_echo-stop.ensures)
