-- The laws that other crates cite, as the functions state them.
use Rattle.vt_check.proofs.Stated.{one_verdict-one}
use Rattle.vt_explain.proofs.Answered.{one_acceptance as one_acceptance_by}
use Rattle.vt_explain.proofs.Certified.{certificates_explain, one_certificate}
use Rattle.vt_explain.specs.Accepting.{OneAcceptance}
use Rattle.vt_explain.specs.Certificates.{CertificatesExplain, OneCertificate}
use Rattle.vt_switch.proofs.Stated.{acts_tell_one_thing-due, acts_tell_one_thing-hop, acts_tell_one_thing-news}
pub use Rattle.vt_explain.proofs.Certs.{one_cert as one_cert-one}

pub certificates_explain-explain : CertificatesExplain
certificates_explain-explain = certificates_explain acts_tell_one_thing-due acts_tell_one_thing-hop

pub certificates_explain-one : OneCertificate
certificates_explain-one = one_certificate acts_tell_one_thing-news

pub one_acceptance : OneAcceptance
one_acceptance = one_acceptance_by one_verdict-one
