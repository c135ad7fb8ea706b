use Rattle.std.proofs.Common.{◌+◌, length, take, ap, ◌∙◌, arith, length-set}
use Rattle.call_bytes.specs.Colours.{colour_at}
use Rattle.call_bytes.proofs.Tables.{colours_read}
use Rattle.call_bytes.proofs.Texts.{item_more}
use Rattle.std.proofs.lemmas.List.{take_more_set}
use Rattle.call_bytes.proofs.colours.read_colours.Goals as goal

pub loop-n-preserved : goal.loop-n-preserved
loop-n-preserved c =
    record {
      tall = ap length c.set.ensures ∙ simp length-set c.loop-n.invariant.tall;
      read =
          item_more (colour_at c.args.b.now) c.loop-n.n c.colour_at.result (take c.loop-n.n c.loop-n.palette)
          (take (c.loop-n.n + 1) c.set.new.self) (c.colour_at.ensures ∙ ap (colour_at c.args.b.now) c.from.ensures)
          (ap (take (c.loop-n.n + 1)) c.set.ensures
          ∙ take_more_set c.loop-n.palette c.loop-n.n c.colour_at.result (omega arith))
          c.loop-n.invariant.read;
    }

pub returns : goal.returns
returns c =
    colours_read c.args.b.now c.loop-n.palette c.loop-n.n (omega arith) (omega arith) (omega arith) c.loop-n.invariant.read
