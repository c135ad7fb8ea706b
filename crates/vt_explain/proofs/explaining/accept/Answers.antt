use Rattle.std.proofs.Common.{subst}
use Rattle.session_order.specs.Sessions.{setup_of, start_of}
use Rattle.vt_explain.proofs.Stated.{certificates_explain-explain}
use Rattle.vt_explain.specs.Accepting.{Accepts}
use Rattle.vt_world.specs.Laws.{moments}
use Rattle.vt_explain.proofs.explaining.accept.Goals as goal

pub returns-clause-lawful : goal.returns-clause-lawful
returns-clause-lawful c = λ yes.
    certificates_explain-explain (moments (start_of c.args.s.now) c.args.j.now.entries)
    c.args.c.now
    (subst (Accepts (setup_of c.args.s.now) c.args.j.now.entries c.args.j.now.tail c.args.c.now) yes
    c.in_ok-judged.ensures).1
