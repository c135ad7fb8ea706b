use Rattle.std.proofs.Common.{◌≡◌, ◌++◌, arith}
use Rattle.std.proofs.lemmas.Bool.{OnFalse_at, OnTrue_at}
use Rattle.vt_journal.specs.Words.{reply_words}
use Rattle.vt_journal.proofs.Once.{behind_caller, behind_word}
use Rattle.vt_journal.proofs.entry_lines.take_entry.Goals as goal

pub returns-in_default-take_number-clause-takes : goal.returns-in_default-take_number-clause-takes
returns-in_default-take_number-clause-takes c =
    λ e rest fit is.
    c.in_default-take_number.ensures.takes e.seq _ (omega (arith, fit.seq, c.from.ensures))
    (behind_word c.args.version c.args.words.now c.take_caller.new.words _ e rest c.in-Some.ensures.takes is)

pub returns-then-not-take_word-clause-takes : goal.returns-then-not-take_word-clause-takes
returns-then-not-take_word-clause-takes c =
    λ e rest fit is.
    let takes = rw c.in-Some-2.is at c.in_ok-event.ensures.takes in
    let fit_d = rw c.in-Some-2.is at c.in_ok-event.ensures.fit in
    let none = OnFalse_at c.if-not-take_word.true c.take_word.ensures.none in
    none _
    (behind_caller c.args.version _ c.take_caller.new.words c.take_number.new.words c.take_event.new.words _ _ _ e rest
    fit_d fit c.in-Some.ensures.takes c.in-Some-take_number.ensures.takes takes is)

pub returns-in_default-3-clause-takes : goal.returns-in_default-3-clause-takes
returns-in_default-3-clause-takes c =
    λ e rest fit is.
    let takes = rw c.in-Some-2.is at c.in_ok-event.ensures.takes in
    let fit_d = rw c.in-Some-2.is at c.in_ok-event.ensures.fit in
    let none = rw c.in_default-3.is at c.in_ok-reply.ensures.takes in
    let sign = OnTrue_at c.if-not-take_word.false c.take_word.ensures.found in
    let ahead =
    behind_caller c.args.version _ c.take_caller.new.words c.take_number.new.words c.take_event.new.words _ _ _ e rest
    fit_d fit c.in-Some.ensures.takes c.in-Some-take_number.ensures.takes takes is in
    let answer : c.take_word.new.words ≡ reply_words e.reply ++ rest = cc in
    none e.reply rest fit.answer answer
