use Rattle.key_dump.proofs.for_laws.ReadsBack.{dump_reads_back}
use Rattle.key_syms.proofs.Stated.{names_are_their_own-code_points, names_are_their_own-names}
use Rattle.key_dump.proofs.laws.dump_reads_back.Goals as goal

pub returns : goal.returns
returns c = dump_reads_back names_are_their_own-names names_are_their_own-code_points
