use Rattle.std.proofs.Common.{arith, length-set}
use Rattle.call_bytes.specs.Words.{word_at}
use Rattle.call_bytes.proofs.Tables.{words_read}
use Rattle.call_bytes.proofs.Texts.{placed_more}
use Rattle.call_bytes.proofs.words.read_words.Goals as goal

pub loop-k-preserved : goal.loop-k-preserved
loop-k-preserved c =
    record {
      tall = simp length-set c.loop-k.invariant.tall;
      read =
          placed_more (word_at c.args.b.now) c.loop-k.k c.number_at.result c.loop-k.words (omega arith) c.number_at.ensures
          c.loop-k.invariant.read;
    }

pub returns : goal.returns
returns c = words_read c.args.b.now c.loop-k.words c.loop-k.k (omega arith) (omega arith) (omega arith) c.loop-k.invariant.read
