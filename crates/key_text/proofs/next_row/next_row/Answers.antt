use Rattle.std.proofs.Common.{◌+◌, ◌∷◌, ◌∙◌, ap, drop, sym}
use Rattle.key_text.specs.Rows.{row_of, rows_of}
use Rattle.key_text.proofs.Begun.{begun, begun_ended, begun_left, begun_pushed, begun_skipped}
use Rattle.key_text.proofs.next_row.next_row.Goals as goal

pub loop-i-init : goal.loop-i-init
loop-i-init c = begun _ _ _ _ c.requires c.clear.ensures.items

pub returns-then-ended-ne0-clause-rows : goal.returns-then-ended-ne0-clause-rows
returns-then-ended-ne0-clause-rows c =
    begun_ended _ _ _ _ _ _ _ c.loop-i.invariant _ c.end_len-ended.ensures.value c.if-ended-ne0.true
    ∙ ap (λ at. row_of c.loop-i.items.items c.loop-i.here ∷ rows_of at (drop (c.loop-i.i + c.end_len-ended.result) c.args.text.now)) (sym c.next_line.ensures)

pub loop-i-preserved-then-skipped-ne0 : goal.loop-i-preserved-then-skipped-ne0
loop-i-preserved-then-skipped-ne0 c =
    begun_skipped _ _ _ _ _ _ _ c.loop-i.invariant _ c.join_len-skipped.ensures.value c.if-skipped-ne0.true c.join_len-skipped.ensures.within _ c.next_line-here.ensures

pub loop-i-preserved : goal.loop-i-preserved
loop-i-preserved c =
    begun_pushed _ _ _ _ _ _ _ c.loop-i.invariant c.loop-i-test.true
    (sym c.end_len-ended.ensures.value ∙ c.if-ended-ne0.false) (sym c.join_len-skipped.ensures.value ∙ c.if-skipped-ne0.false)
    c.with_places.result c.with_places.ensures _ c.in_ok-push.ensures.items _ c.after-here.ensures

pub returns-clause-rows : goal.returns-clause-rows
returns-clause-rows c = begun_left _ _ _ _ _ _ _ c.loop-i.invariant c.loop-i-test.false
