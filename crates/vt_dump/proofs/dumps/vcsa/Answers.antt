use Rattle.std.proofs.Common.{arith}
use Rattle.vt_dump.proofs.Lengths.{length_of_pairs}
use Rattle.vt_dump.proofs.dumps.vcsa.Goals as goal

pub returns-clause-room : goal.returns-clause-room
returns-clause-room c =
    let pairs = length_of_pairs c.args.g.now c.args.reversed c.add_cells.ensures.full in
    omega (arith, c.append.ensures.room, c.add_cells.ensures.grew.room, pairs)
