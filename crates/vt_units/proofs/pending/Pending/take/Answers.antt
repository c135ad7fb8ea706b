use Rattle.std.proofs.Common.{sym}
use Rattle.vt_units.proofs.pending.Pending.take.Goals as goal

pub returns-then-take_body-clause-answer : goal.returns-then-take_body-clause-answer
returns-then-take_body-clause-answer c = sym (c.take_body.ensures.goes c.if-take_body.true c.args.mode).0

pub returns-then-take_body-clause-rest : goal.returns-then-take_body-clause-rest
returns-then-take_body-clause-rest c = sym (c.take_body.ensures.goes c.if-take_body.true c.args.mode).1
