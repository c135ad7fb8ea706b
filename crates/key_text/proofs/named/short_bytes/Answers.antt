use Rattle.std.proofs.Common.{◌∙◌, arith}
use Rattle.std.proofs.lemmas.List.{length-set}
use Rattle.key_text.proofs.Spelling.{copied_more}
use Rattle.key_text.proofs.named.short_bytes.Goals as goal

pub loop-i-preserved : goal.loop-i-preserved
loop-i-preserved c = (
  length-set c.loop-i.text c.loop-i.i _ ∙ c.loop-i.invariant.0,
  copied_more c.loop-i.text c.args.word.now c.loop-i.i _ (omega (arith, c.loop-i.invariant.0, c.loop-i-test.true, c.requires)) c.loop-i-test.true c.loop-i.invariant.1,
)
