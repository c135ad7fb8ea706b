use Rattle.std.specs.Int.{to_le_bytes, w32}
use Rattle.call_bytes.proofs.Texts.{three_more}
use Rattle.call_bytes.proofs.pairs.add_pair.Goals as goal

pub returns-clause-bytes : goal.returns-clause-bytes
returns-clause-bytes c =
    let pair = c.args.pair in
    three_more c.args.out.now.bytes c.add_number.new.out.bytes c.add_number-2.new.out.bytes c.add_number-3.new.out.bytes
    (to_le_bytes w32 pair.accent) (to_le_bytes w32 pair.base) (to_le_bytes w32 pair.result)
    c.add_number.ensures.bytes c.add_number-2.ensures.bytes c.add_number-3.ensures.bytes
