use Rattle.std.proofs.Common.{sym, ap, ◌∙◌, subst, rules}
use Rattle.vt_journal.specs.Replies.{Within, kind_of, mosts, reply_held, reply_numbers}
use Rattle.vt_journal.proofs.ReplyWords.{held_are, named_reply, numbers_are, reply_bytes, reply_is, takes_answer}
use Rattle.vt_journal.proofs.Spellings.{fit_bytes}
use Rattle.vt_journal.proofs.replies.take_reply.Goals as goal

pub returns-in_default-clause-takes : goal.returns-in_default-clause-takes
returns-in_default-clause-takes c =
    λ r rest fit is.
    let begins = named_reply r rest in
    c.in_default.ensures (kind_of r) begins.0 tt (is ∙ begins.1)

pub returns-in_default-take_numbers-clause-takes : goal.returns-in_default-take_numbers-clause-takes
returns-in_default-take_numbers-clause-takes c =
    λ r rest fit is.
    let kind = reply_is _ c.take_kind.new.words c.in-Some.kind r rest is c.in-Some.ensures in
    c.in_default-take_numbers.ensures.takes (reply_numbers r) _
    (subst (λ most. Within most (reply_numbers r)) (ap mosts kind.kind ∙ sym c.mosts.ensures) fit.numbers)
    kind.words

pub returns-in_default-2-clause-takes : goal.returns-in_default-2-clause-takes
returns-in_default-2-clause-takes c =
    λ r rest fit is.
    let kind = reply_is _ c.take_kind.new.words c.in-Some.kind r rest is c.in-Some.ensures in
    let are =
    numbers_are c.in-Some.kind _ c.in-Some-take_numbers.numbers.items c.take_kind.new.words
    c.take_numbers.new.words r rest kind fit c.mosts.ensures c.in-Some-take_numbers.ensures.fit
    c.in-Some-take_numbers.ensures.takes in
    let none = rw c.in_default-2.is at c.in_ok-bytes.ensures.takes in
    none (reply_bytes r) rest (fit_bytes (reply_held r) fit.bytes)
    (held_are c.in-Some.kind c.take_numbers.new.words c.take_numbers.new.words r rest
    c.holds_bytes.result kind.kind c.holds_bytes.ensures are.words)

pub returns-clause-takes : goal.returns-clause-takes
returns-clause-takes c =
    takes_answer c.args.words.now c.read_bytes.new.words c.answer.result _ (search rules) c.answer.ensures.none
    (λ none r rest fit is.
    let kind = reply_is _ c.take_kind.new.words c.in-Some.kind r rest is c.in-Some.ensures in
    let are =
    numbers_are c.in-Some.kind _ c.in-Some-take_numbers.numbers.items c.take_kind.new.words
    c.take_numbers.new.words r rest kind fit c.mosts.ensures c.in-Some-take_numbers.ensures.fit
    c.in-Some-take_numbers.ensures.takes in
    none r kind.kind (sym are.numbers ∙ sym c.as_slice.ensures.value))
