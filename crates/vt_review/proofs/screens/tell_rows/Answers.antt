use Rattle.std.proofs.Common.{◌++◌, ℕ, List, flat_map, refl, sym, ap, ◌∙◌, append-nil, arith}
use Rattle.std.specs.Prelude.{option_copied}
use Rattle.vt_review.proofs.OldRows.{first_row, from_first, none_from}
use Rattle.vt_grid.specs.Grid.{row_at}
use Rattle.vt_review.specs.Lines.{Told, ear_lines}
use Rattle.vt_review.specs.Screens.{texts_of}
use Rattle.vt_review.proofs.screens.tell_rows.Goals as goal

pub loop-y-init : goal.loop-y-init
loop-y-init g c =
    ap (λ (told : List Told). c.args.text.now.bytes ++ flat_map (ear_lines 0 c.args.rows.now.place c.args.ears.now) told)
    (sym (from_first c.args.rows.now.console c.args.first c.args.last (texts_of (option_copied c.args.rows.now.before)) c.args.rows.now.after.now
    c.stays_full.ensures.full c.requires))

pub returns : goal.returns
returns g c =
    let before : List (List ℕ) = texts_of (option_copied c.args.rows.now.before) in
    let f : Told → List ℕ = ear_lines 0 c.args.rows.now.place c.args.ears.now in
    sym (append-nil c.loop-y.text.bytes)
    ∙ ap (λ (told : List Told). c.loop-y.text.bytes ++ flat_map f told)
    (sym (none_from c.args.rows.now.console c.args.first c.args.last c.loop-y.y before c.args.rows.now.after.now
    c.stays_full.ensures.full c.requires
    (λ i above low.
    c.end_of-y-end.ensures.last i (omega (arith, above, c.loop-y-test.false)) (omega (arith, low, c.size.ensures.rows)))))
    ∙ c.loop-y.invariant

pub loop-y-preserved : goal.loop-y-preserved
loop-y-preserved g c =
    first_row (ear_lines 0 c.args.rows.now.place c.args.ears.now) c.args.rows.now.console c.loop-y.y
    (texts_of (option_copied c.args.rows.now.before)) c.args.rows.now.after.now.cells (row_at c.args.rows.now.after.now c.loop-y.y)
    c.loop-y.text.bytes _ c.tell_if_new.new.text.bytes
    (omega (arith, c.loop-y-test.true, c.end_of-y-end.ensures.most, c.size.ensures.rows, c.stays_full.ensures.full.tall))
    refl c.in_ok-new.ensures c.loop-y.invariant
