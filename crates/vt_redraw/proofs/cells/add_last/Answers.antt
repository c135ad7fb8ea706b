use Rattle.std.proofs.Common.{ℕ, List, ◌++◌, sym, ap, ◌∙◌, append_assoc}
use Rattle.vt_redraw.proofs.Pendings.{last_drawn, last_erased}
use Rattle.vt_redraw.specs.Sequences.{erase_text}
use Rattle.vt_redraw.proofs.cells.add_last.Goals as goal

pub returns-then-ends_with_erase : goal.returns-then-ends_with_erase
returns-then-ends_with_erase c =
    let before : List ℕ = c.args.text.now.bytes in
    let front : List ℕ = c.args.pending.now.front in
    c.in_ok-add_erase.ensures
    ∙ ap (λ (text : List ℕ). text ++ erase_text)
    (c.in_ok-add.ensures ∙ ap (λ (text : List ℕ). before ++ text) c.as_slice.ensures.list)
    ∙ append_assoc before front erase_text
    ∙ ap (λ (text : List ℕ). before ++ text)
    (sym (last_erased c.args.erases c.args.pending.now (sym c.ends_with_erase.ensures ∙ c.if-ends_with_erase.true)))

pub returns : goal.returns
returns c =
    c.in_ok-add-2.ensures
    ∙ ap (λ (text : List ℕ). c.args.text.now.bytes ++ text)
    (c.as_slice-2.ensures.list
    ∙ c.settle.ensures.front
    ∙ sym (last_drawn c.args.erases c.args.pending.now (sym c.ends_with_erase.ensures ∙ c.if-ends_with_erase.false)))
