use Rattle.std.proofs.Common.{◌<◌, ◌^◌, subst, ap, ◌∙◌, rules}
use Rattle.std.specs.List.{All}
use Rattle.std.specs.Prelude.{IfSome}
use Rattle.vt_events.proofs.Stated.{parts_make_the_call}
use Rattle.vt_events.specs.Calls.{PartsView}
use Rattle.vt_journal.proofs.Spellings.{fit_meant}
use Rattle.vt_journal.specs.Text.{Begins}
use Rattle.vt_journal.proofs.Texts.{begins_after, begins_more}
use Rattle.vt_journal.proofs.printing.add_event_words.Goals as goal

pub returns-clause-fit : goal.returns-clause-fit
returns-clause-fit c =
    fit_meant c.args.e.now (parts_make_the_call c.args.e.now)
    (subst (All (λ n. n < 2 ^ 16)) (c.numbers.ensures ∙ ap (λ (p : PartsView). p.numbers) c.of-parts.ensures)
    c.add_named.ensures.fit)
    (subst (λ held. IfSome held (λ bytes. All (λ b. b < 2 ^ 8) bytes)) (c.held.ensures ∙ ap (λ (p : PartsView). p.held) c.of-parts.ensures)
    c.add_held.ensures.fit)

pub returns-in_err-add_held-clause-adds : goal.returns-in_err-add_held-clause-adds
returns-in_err-add_held-clause-adds c =
    let begins : Begins c.args.text.now.bytes c.add_held.new.text.bytes =
    begins_after _ _ _ (begins_more _ _ _ c.in_ok-add_named.ensures.adds) c.in_err-add_held.ensures.adds in
    search (rules, begins)
