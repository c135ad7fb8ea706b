use Rattle.std.proofs.Common.{[], ◌∷◌, ◌++◌, decimal, refl, ◌∙◌}
use Rattle.std.proofs.lemmas.List.{take_all}
use Rattle.vt_journal.proofs.Lines.{numbered_line, piece_more}
use Rattle.vt_journal.proofs.printing.add_numbered.Goals as goal

pub loop-n-preserved : goal.loop-n-preserved
loop-n-preserved c =
    piece_more (λ word. 0x20 ∷ word) decimal (c.args.text.now.bytes ++ c.args.name.now) [] c.args.numbers.now
    c.loop-n.n-index _ 0 c.loop-n.text.bytes c.add_next.new.text.bytes c.loop-n-test.true refl c.loop-n.invariant
    c.in_ok-add_next.ensures

pub returns : goal.returns
returns c =
    c.in_ok-add_end.ensures
    ∙ numbered_line c.args.name.now c.args.numbers.now c.loop-n.n-index c.args.text.now.bytes
    c.loop-n.text.bytes (take_all c.loop-n.n-index c.args.numbers.now c.loop-n-test.false)
    c.loop-n.invariant
