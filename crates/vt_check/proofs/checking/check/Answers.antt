use Rattle.session_order.specs.Sessions.{setup_of}
use Rattle.vt_check.proofs.VerdictLaws.{one_verdict, verdict_is_right}
use Rattle.vt_check.proofs.checking.check.Goals as goal

pub returns-clause-one : goal.returns-clause-one
returns-clause-one c = λ other judges.
    one_verdict (setup_of c.args.s.now) c.args.j.now.entries c.args.j.now.tail other
    c.in_ok-verdict.verdict judges c.in_ok-verdict.ensures.judges

pub returns-clause-legal : goal.returns-clause-legal
returns-clause-legal c =
    verdict_is_right (setup_of c.args.s.now) c.args.j.now.entries c.args.j.now.tail c.in_ok-verdict.verdict
    c.in_ok-verdict.ensures.judges
