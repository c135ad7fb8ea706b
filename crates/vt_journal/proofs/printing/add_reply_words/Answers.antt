use Rattle.std.proofs.Common.{◌<◌, ◌^◌, subst, sym, rules}
use Rattle.std.specs.List.{All}
use Rattle.vt_events.specs.Plain.{plain_reply}
use Rattle.vt_journal.specs.Replies.{IsFitReply}
use Rattle.vt_journal.proofs.ReplyWords.{always, fit_mode, fit_text}
use Rattle.vt_journal.specs.Text.{Begins}
use Rattle.vt_journal.proofs.Texts.{begins_after, begins_more, begins_same}
use Rattle.vt_journal.proofs.printing.add_reply_words.Goals as goal

pub returns-in_ok-add_bytes-in-Text-clause-fit : goal.returns-in_ok-add_bytes-in-Text-clause-fit
returns-in_ok-add_bytes-in-Text-clause-fit c =
    subst (λ r. IsFitReply (plain_reply r)) (sym c.in-Text.is)
    (fit_text c.in-Text.b
    (subst (All (λ x. x < 2 ^ 8)) c.as_slice.ensures c.add_bytes.ensures.fit))

pub returns-in-Mode-clause-fit : goal.returns-in-Mode-clause-fit
returns-in-Mode-clause-fit c =
    always c.add_named-in-Mode.result
    (subst (λ r. IsFitReply (plain_reply r)) (sym c.in-Mode.is)
    (fit_mode c.in-Mode.m c.add_named-in-Mode.ensures.fit))

pub returns-in_err-add_next-in-State-clause-adds : goal.returns-in_err-add_next-in-State-clause-adds
returns-in_err-add_next-in-State-clause-adds c =
    let begins : Begins c.args.text.now.bytes c.add_next.new.text.bytes =
    begins_after _ _ _ (begins_more _ _ _ c.in_ok-add_named-in-State.ensures.adds) (begins_same _ _ c.in_err-add_next-in-State.ensures) in
    search (rules, begins)

pub returns-in_err-add_bytes-in-Text-clause-adds : goal.returns-in_err-add_bytes-in-Text-clause-adds
returns-in_err-add_bytes-in-Text-clause-adds c =
    let begins : Begins c.args.text.now.bytes c.add_bytes.new.text.bytes =
    begins_after _ _ _ (begins_more _ _ _ c.in_ok-add_name-in-Text.ensures) c.in_err-add_bytes-in-Text.ensures.adds in
    search (rules, begins)
