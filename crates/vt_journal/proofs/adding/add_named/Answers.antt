use Rattle.std.proofs.Common.{[], ◌∷◌, ◌++◌, decimal, map, refl, ap, ◌∙◌, rules}
use Rattle.std.proofs.lemmas.List.{take_all}
use Rattle.vt_journal.specs.Text.{Begins, blank_before_each}
use Rattle.vt_journal.proofs.Lines.{piece_more}
use Rattle.vt_journal.proofs.Texts.{begins_after, begins_more, begins_same}
use Rattle.vt_journal.proofs.adding.add_named.Goals as goal

pub loop-n-preserved : goal.loop-n-preserved
loop-n-preserved c =
    piece_more (λ word. 0x20 ∷ word) decimal c.args.text.now.bytes (c.args.name.now ∷ []) c.args.numbers.now
    c.loop-n.n-index _ 0 c.loop-n.text.bytes c.add_next.new.text.bytes c.loop-n-test.true refl c.loop-n.invariant
    (c.in_ok-add_next.ensures ∙ ap (λ n. c.loop-n.text.bytes ++ 0x20 ∷ decimal n) c.from.ensures)

pub returns-in_err-add_word-clause-adds : goal.returns-in_err-add_word-clause-adds
returns-in_err-add_word-clause-adds c = search (rules, begins_same _ _ c.in_err-add_word.ensures)

pub returns-in_err-add_next-clause-adds : goal.returns-in_err-add_next-clause-adds
returns-in_err-add_next-clause-adds c =
    let begins : Begins c.args.text.now.bytes c.add_next.new.text.bytes =
    begins_after _ _ _ (begins_more _ _ _ c.loop-n.invariant) (begins_same _ _ c.in_err-add_next.ensures) in
    search (rules, begins)

pub returns-clause-adds : goal.returns-clause-adds
returns-clause-adds c =
    c.loop-n.invariant
    ∙ ap (λ ns. c.args.text.now.bytes ++ blank_before_each (c.args.name.now ∷ map decimal ns))
    (take_all c.loop-n.n-index c.args.numbers.now c.loop-n-test.false)
