use Rattle.std.proofs.Common.{subst, ◌∙◌}
use Rattle.watch.specs.Texts.{watch_text}
use Rattle.session_order.specs.Sessions.{setup_of, start_of}
use Rattle.vt_check.specs.Verdicts.{Judges}
use Rattle.vt_explain.specs.Accepting.{IfCert, verdict_of}
use Rattle.vt_explain.specs.Certificates.{IsCertificate}
use Rattle.vt_explain.specs.declared.explained.Explained.{Explained}
use Rattle.vt_world.specs.Laws.{moments}
use Rattle.watch.proofs.watcher.watch_text.Goals as goal

pub returns-in_ok-text-in-Cert-clause-judges : goal.returns-in_ok-text-in-Cert-clause-judges
returns-in_ok-text-in-Cert-clause-judges c =
    subst (λ (x : Explained). Judges (setup_of c.args.s.now) c.args.j.now.entries c.args.j.now.tail (verdict_of x))
    c.in-Cert.is c.in_ok-cert.ensures.judges

pub returns-in_ok-text-in-Cert-clause-text : goal.returns-in_ok-text-in-Cert-clause-text
returns-in_ok-text-in-Cert-clause-text c = record {
  cert = c.in-Cert.cert.items;
  good =
      subst (λ (x : Explained). IfCert x (IsCertificate (moments (start_of c.args.s.now) c.args.j.now.entries)))
      c.in-Cert.is c.in_ok-cert.ensures.cert;
  text_is =
      c.in_ok-text-in-Cert.ensures
      ∙ (λ k. watch_text c.args.form (c.as_slice.ensures.value k) (c.in_ok-world-in-Cert.ensures k) (c.as_slice-in-Cert.ensures.same k));
}

pub returns-in-Illegal-clause-judges : goal.returns-in-Illegal-clause-judges
returns-in-Illegal-clause-judges c =
    subst (λ (x : Explained). Judges (setup_of c.args.s.now) c.args.j.now.entries c.args.j.now.tail (verdict_of x))
    c.in-Illegal.is c.in_ok-cert.ensures.judges
