use Rattle.std.proofs.Common.{List, subst}
use Rattle.session_order.specs.Sessions.{setup_of, start_of}
use Rattle.vt_check.specs.Verdicts.{Judges}
use Rattle.vt_explain.proofs.Answered.{compared}
use Rattle.vt_explain.specs.Accepting.{Compares, IfCert, verdict_of}
use Rattle.vt_explain.specs.Certificates.{IsCertificate}
use Rattle.vt_explain.specs.declared.explained.Explained.{Explained}
use Rattle.vt_explain.specs.declared.hop_why.HopWhy.{HopWhy}
use Rattle.vt_switch.proofs.Stated.{acts_tell_one_thing-news}
use Rattle.vt_world.specs.Laws.{moments}
use Rattle.vt_explain.proofs.explaining.judge_items.Goals as goal

pub returns-in_ok-judged-in-Cert : goal.returns-in_ok-judged-in-Cert
returns-in_ok-judged-in-Cert c =
    compared acts_tell_one_thing-news (setup_of c.args.s.now) c.args.j.now.entries c.args.j.now.tail
    c.in-Cert.items.items c.args.c.now c.in_ok-judged-in-Cert.judged
    (subst (λ (x : Explained). Judges (setup_of c.args.s.now) c.args.j.now.entries c.args.j.now.tail (verdict_of x))
    c.in-Cert.is c.in_ok-explained.ensures.judges)
    (subst (λ (x : Explained). IfCert x (IsCertificate (moments (start_of c.args.s.now) c.args.j.now.entries)))
    c.in-Cert.is c.in_ok-explained.ensures.cert)
    (subst (λ (made : List HopWhy). Compares made c.args.c.now c.in_ok-judged-in-Cert.judged)
    c.as_slice.ensures.value c.in_ok-judged-in-Cert.ensures)

pub returns-in-Illegal : goal.returns-in-Illegal
returns-in-Illegal c =
    subst (λ (x : Explained). Judges (setup_of c.args.s.now) c.args.j.now.entries c.args.j.now.tail (verdict_of x))
    c.in-Illegal.is c.in_ok-explained.ensures.judges
