use Rattle.std.proofs.Common.{◌∙◌, sym, arith}
use Rattle.vt_canvas.proofs.Fours.{plain_end, plain_run}
use Rattle.vt_canvas.proofs.canvas.prefixes.plain_prefix.Goals as goal

pub loop-at-preserved : goal.loop-at-preserved
loop-at-preserved c =
    let run = plain_run c.args.codes.now 4 c.loop-at.at c.loop-at-test.true
    (c.are_four_plain.ensures.each c.if-not-are_four_plain.false) in
    record {
      count = omega (arith, run, c.loop-at.invariant.count);
      within = c.loop-at-test.true;
    }

pub returns-then-are_four_plain : goal.returns-then-are_four_plain
returns-then-are_four_plain c =
    plain_end c.args.codes.now c.loop-at.at c.loop-at.invariant.within (omega arith) c.if-codes-ge4.true
    (c.are_four_plain-then-codes-ge4.ensures.each c.if-are_four_plain.true)
    ∙ sym c.loop-at.invariant.count
