use Rattle.std.proofs.Common.{◌≡◌, ◌∙◌, ◌++◌, ◌∷◌, [], ℕ, List, false, sym, ap, arith}
use Rattle.std.specs.List.{slice_index_or}
use Rattle.key_compile.specs.Union.{passing_below}
use Rattle.key_compile.proofs.Marking.{passing_below_no, passing_below_none, passing_below_yes}
use Rattle.key_compile.proofs.union.marked_tables.Goals as goal

pub loop-t-init : goal.loop-t-init
loop-t-init c =
    c.new-tables.ensures.items ∙ sym (passing_below_none (λ t. slice_index_or c.args.marks.now t false))

pub loop-t-preserved-then-not-marks-t : goal.loop-t-preserved-then-not-marks-t
loop-t-preserved-then-not-marks-t c =
    c.loop-t.invariant ∙ sym (passing_below_no (λ t. slice_index_or c.args.marks.now t false) c.loop-t.t c.if-not-marks-t.true)

pub loop-t-preserved : goal.loop-t-preserved
loop-t-preserved c =
    c.in_ok-push.ensures.items
    ∙ ap (λ (front : List ℕ). front ++ c.loop-t.t ∷ []) c.loop-t.invariant
    ∙ sym (passing_below_yes (λ t. slice_index_or c.args.marks.now t false) c.loop-t.t c.if-not-marks-t.false)

pub returns : goal.returns
returns c =
    let ends : c.loop-t.t ≡ 256 = omega arith in
    c.loop-t.invariant ∙ ap (passing_below (λ t. slice_index_or c.args.marks.now t false)) ends
