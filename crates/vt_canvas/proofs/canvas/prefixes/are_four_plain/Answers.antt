use Rattle.std.proofs.Common.{sym, ◌∙◌}
use Rattle.vt_canvas.proofs.Fours.{four_each}
use Rattle.vt_canvas.proofs.canvas.prefixes.are_four_plain.Goals as goal

pub returns : goal.returns
returns c = record {
  each = λ last.
      four_each c.args.codes.now c.args.at
      (sym c.is_plain.ensures ∙ c.if-not-is_plain.false)
      (sym c.is_plain-2.ensures ∙ c.if-not-is_plain-2.false)
      (sym c.is_plain-3.ensures ∙ c.if-not-is_plain-3.false)
      (sym c.is_plain-4.ensures ∙ last);
}
