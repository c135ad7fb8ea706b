use Rattle.std.proofs.Common.{arith}
use Rattle.vt_dump.proofs.Lengths.{length_of_codes}
use Rattle.vt_dump.proofs.dumps.codes.Goals as goal

pub returns-clause-room : goal.returns-clause-room
returns-clause-room c =
    omega (arith, c.add_cells.ensures.grew.room, length_of_codes c.args.g.now c.add_cells.ensures.full)
