use Rattle.std.proofs.Common.{subst}
use Rattle.cooked.proofs.TurnLaws.{call_reads, reads_done, reads_full}
use Rattle.cooked.proofs.tty.read_byte.Goals as goal
use Rattle.vt_events.specs.declared.event.Event.TheVariants as event
use Rattle.vt_hub.specs.Answers.{Answers}

pub byte_of-requires : goal.byte_of-requires
byte_of-requires g c =
    call_reads _ _ _ _ _ _ _
    (subst (Answers g.J.Opening.start g.J.Opening.limits (event.ReadIn c.args.fd 1) c.args.pass.now c.ask.new.pass) c.in-Done.is
    c.in_ok-answer.ensures.ok)

pub returns-in-Done-clause-ok : goal.returns-in-Done-clause-ok
returns-in-Done-clause-ok g c =
    reads_done _ _ _ _ _ _ _ c.byte_of.result
    (subst (Answers g.J.Opening.start g.J.Opening.limits (event.ReadIn c.args.fd 1) c.args.pass.now c.ask.new.pass) c.in-Done.is
    c.in_ok-answer.ensures.ok)
    c.byte_of.ensures

pub returns-in-Full-clause-ok : goal.returns-in-Full-clause-ok
returns-in-Full-clause-ok g c =
    reads_full _ _ _ _ _ _
    (subst (Answers g.J.Opening.start g.J.Opening.limits (event.ReadIn c.args.fd 1) c.args.pass.now c.ask.new.pass) c.in-Full.is
    c.in_ok-answer.ensures.ok)
