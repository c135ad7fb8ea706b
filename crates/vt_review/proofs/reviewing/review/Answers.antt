use Rattle.std.proofs.Common.{List, ap, subst, ◌∙◌}
use Rattle.session_order.specs.Sessions.{setup_of, start_of}
use Rattle.vt_base.specs.Bytes.{Text}
use Rattle.vt_check.proofs.Stated.{one_verdict-one, one_verdict-right}
use Rattle.vt_check.specs.Verdicts.{Judges}
use Rattle.vt_check.specs.declared.verdict.Verdict.TheVariants as verdict
use Rattle.vt_review.specs.Announcements.{review_text}
use Rattle.vt_review.specs.declared.ear_table.EarTable.{EarTable}
use Rattle.vt_review.proofs.reviewing.review.Goals as goal

pub returns-in-Illegal-clause-judges : goal.returns-in-Illegal-clause-judges
returns-in-Illegal-clause-judges g c =
    subst (Judges (setup_of c.args.s.now) c.args.j.now.entries c.args.j.now.tail) c.in-Illegal.is
    c.in_ok-verdict.ensures.judges

pub returns-in-Illegal-clause-one : goal.returns-in-Illegal-clause-one
returns-in-Illegal-clause-one g c = λ other judges.
    one_verdict-one (setup_of c.args.s.now) c.args.j.now.entries c.args.j.now.tail other
    c.in_ok-verdict.verdict judges c.in_ok-verdict.ensures.judges
    ∙ c.in-Illegal.is

pub returns-in-Illegal-clause-legal : goal.returns-in-Illegal-clause-legal
returns-in-Illegal-clause-legal g c =
    one_verdict-right (setup_of c.args.s.now) c.args.j.now.entries c.args.j.now.tail
    (verdict.Illegal c.in-Illegal.index c.in-Illegal.why)
    (subst (Judges (setup_of c.args.s.now) c.args.j.now.entries c.args.j.now.tail) c.in-Illegal.is
    c.in_ok-verdict.ensures.judges)

pub returns-in-Legal-clause-judges : goal.returns-in-Legal-clause-judges
returns-in-Legal-clause-judges g c =
    subst (Judges (setup_of c.args.s.now) c.args.j.now.entries c.args.j.now.tail) c.in-Legal.is
    c.in_ok-verdict.ensures.judges

pub returns-in-Legal-clause-one : goal.returns-in-Legal-clause-one
returns-in-Legal-clause-one g c = λ other judges.
    one_verdict-one (setup_of c.args.s.now) c.args.j.now.entries c.args.j.now.tail other
    c.in_ok-verdict.verdict judges c.in_ok-verdict.ensures.judges
    ∙ c.in-Legal.is

pub returns-in-Legal-clause-legal : goal.returns-in-Legal-clause-legal
returns-in-Legal-clause-legal g c =
    one_verdict-right (setup_of c.args.s.now) c.args.j.now.entries c.args.j.now.tail verdict.Legal
    (subst (Judges (setup_of c.args.s.now) c.args.j.now.entries c.args.j.now.tail) c.in-Legal.is
    c.in_ok-verdict.ensures.judges)

pub returns-in-Legal-clause-tells : goal.returns-in-Legal-clause-tells
returns-in-Legal-clause-tells g c =
    let saw = c.in_ok-verdict.ensures.saw c.in-Legal.is in
    ap (λ (text : Text). text.bytes) c.into_text.ensures
    ∙ saw.1.text_is
    ∙ ap (λ (tables : List EarTable). review_text tables 0 (start_of c.args.s.now) c.args.j.now.entries)
    (saw.0 ∙ c.new-reviewer.ensures.ears)
