use Rattle.std.proofs.Common.{List, length, ap, ◌∙◌}
use Rattle.session_order.specs.Sessions.{setup_of}
use Rattle.session_text.specs.Sessions.{SessionView}
use Rattle.vt_check.specs.Verdicts.{IsRightJournal}
use Rattle.vt_events.specs.declared.entry.Entry.{Entry}
use Rattle.vt_journal.specs.declared.tail.Tail.{Tail}
use Rattle.vt_tool.proofs.Oks.{ok_more}
use Rattle.vt_tool.specs.Commands.Check.{legal_text}
use Rattle.vt_tool.specs.Commands.Judged.{judged_text}
use Rattle.vt_tool.proofs.commands.check.answer.Goals as goal

pub returns : goal.returns
returns c =
    let s : SessionView = c.args.session.now in
    let entries : List Entry = c.args.journal.now.entries in
    let end : Tail = c.args.journal.now.tail in
    let facts = c.in_ok-verdict.ensures in
    ok_more _ _ c.answer_verdict.result
    (λ answer is. record {
      verdict = c.in_ok-verdict.verdict;
      judged = facts.judges;
      right = λ legal.
          let right : IsRightJournal (setup_of s) entries end = facts.legal.0 legal in
          c.session_laws.ensures.right entries end right.legal right.follows right.ends;
      is = is
          ∙ ap (λ n. judged_text (legal_text n) c.in_ok-verdict.verdict) (ap length c.as_slice.ensures.same);
    }) c.answer_verdict.ensures
