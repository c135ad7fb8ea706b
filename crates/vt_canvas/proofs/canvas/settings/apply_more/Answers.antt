use Rattle.std.proofs.Common.{Bool, [], ◌∷◌, sym, ap, ◌∙◌}
use Rattle.std.specs.Prelude.{if◌then◌else◌}
use Rattle.vt_sgr.specs.PenState.{PenState}
use Rattle.vt_sgr.specs.Sgr.{sgr}
use Rattle.vt_units.specs.declared.long_sgr.LongSgr.{LongSgr}
use Rattle.vt_canvas.proofs.canvas.settings.apply_more.Goals as goal

abbrev counted : LongSgr → PenState → Bool → PenState
counted l p five = sgr (l.first ∷ l.second ∷ l.third ∷ (if five then l.fourth ∷ l.fifth ∷ [] else [])) p

pub returns-then-more : goal.returns-then-more
returns-then-more c = c.apply_five.ensures ∙ ap (counted c.args.more c.args.p.now) (sym c.if-more.true)

pub returns-else-more : goal.returns-else-more
returns-else-more c = c.apply_three.ensures ∙ ap (counted c.args.more c.args.p.now) (sym c.if-more.false)
