use Rattle.std.proofs.Common.{◌∙◌, arith, length-drop}
use Rattle.vt_canvas.proofs.Spread.{print_characters_on}
use Rattle.vt_canvas.proofs.canvas.Canvas.print_codes.Goals as goal

pub loop-at-preserved : goal.loop-at-preserved
loop-at-preserved c = record {
  within = omega (arith, c.print_some-at.ensures.within, length-drop c.loop-at.at c.args.codes.now);
  left =
      print_characters_on c.args.codes.now c.loop-at.at c.print_some-at.result c.loop-at.self c.print_some-at.new.self
      c.print_some-at.ensures.printed
      ∙ c.loop-at.invariant.left;
}
