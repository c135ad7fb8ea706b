use Rattle.std.proofs.Common.{ap, ◌∙◌, sym}
use Rattle.vt_explain.specs.CertText.{cert_text}
use Rattle.vt_tool.specs.Outcome.{fine_text}
use Rattle.vt_tool.proofs.Made.{explain_outcome, made_explained}
use Rattle.vt_tool.proofs.commands.explain.answer.Goals as goal

pub returns-in_ok-print_cert-in-Cert : goal.returns-in_ok-print_cert-in-Cert
returns-in_ok-print_cert-in-Cert c =
    made_explained c.args.session.now c.args.journal.now c.in_ok-items.field-0 _
    c.in_ok-items.ensures.judges c.in_ok-items.ensures.cert
    (c.fine.ensures
    ∙ ap fine_text (c.in_ok-print_cert-in-Cert.ensures.text ∙ ap cert_text c.as_slice.ensures.value)
    ∙ ap explain_outcome (sym c.in-Cert.is))

pub returns-in-Illegal : goal.returns-in-Illegal
returns-in-Illegal c =
    made_explained c.args.session.now c.args.journal.now c.in_ok-items.field-0 _
    c.in_ok-items.ensures.judges c.in_ok-items.ensures.cert
    (c.illegal.ensures ∙ ap explain_outcome (sym c.in-Illegal.is))
