use Rattle.std.proofs.Common.{◌++◌, List, ℕ, ap, ◌∙◌}
use Rattle.vt_redraw.proofs.Pendings.{changed_text, half_text}
use Rattle.vt_redraw.proofs.cells.add_other.Goals as goal

pub returns-then-cell-eq-HALF-clause-text : goal.returns-then-cell-eq-HALF-clause-text
returns-then-cell-eq-HALF-clause-text c = λ erases more.
    ap (λ (text : List ℕ). c.args.text.now.bytes ++ text)
    (half_text erases c.args.pending.now c.settle.new.self c.args.cell more c.if-cell-eq-HALF.true
    c.settle.ensures.front c.settle.ensures.blanks c.settle.ensures.attr)

pub returns-clause-text : goal.returns-clause-text
returns-clause-text c = λ erases more.
    ap (λ (text : List ℕ). c.add_change.new.text.bytes ++ text) (c.push.ensures.text erases more)
    ∙ changed_text erases c.args.pending.now c.settle.new.self c.add_change.new.pending c.args.cell more
    c.args.text.now.bytes c.add_change.new.text.bytes c.requires.other c.if-cell-eq-HALF.false
    c.settle.ensures.front c.settle.ensures.blanks c.settle.ensures.attr
    c.in_ok-add_change.ensures.text c.in_ok-add_change.ensures.attr c.in_ok-add_change.ensures.blanks
