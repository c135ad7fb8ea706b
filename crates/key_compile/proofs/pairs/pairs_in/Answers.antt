use Rattle.std.proofs.Common.{IsTrue, arith, subst}
use Rattle.std.proofs.lemmas.Grind.{common_steps}
use Rattle.std.proofs.lemmas.List.Elements.{All-more}
use Rattle.key_text.specs.KeymapLine.{KeymapLine, is_fit}
use Rattle.key_compile.proofs.pairs.pairs_in.Goals as goal

pub loop-i-preserved : goal.loop-i-preserved
loop-i-preserved c = record {
  pairs = grind (arith, common_steps);
  fit =
      All-more (λ (l : KeymapLine). IsTrue (is_fit l.meaning)) c.args.lines.now c.loop-i.i c.index-lines-i.result
      c.loop-i-test.true c.loop-i.invariant.fit
      (subst (λ (l : KeymapLine). IsTrue (is_fit l.meaning)) c.index-lines-i.is c.in_ok-add_pairs.ensures.fit);
}
