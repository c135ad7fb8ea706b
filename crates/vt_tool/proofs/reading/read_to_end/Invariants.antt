use Rattle.std.proofs.Common.{◌≤◌, ◌-◌, length}
use Rattle.std.specs.Io.KnownBytes.{Consumes}
use Rattle.vt_tool.proofs.reading.read_to_end.Given as goal

abbrev pub invariant-reads : goal.invariant-reads
invariant-reads g l = record {
  within : length l.input.bytes ≤ l.limit;
  taken : Consumes (g.S.Source.stream l.initial.src).bytes (g.S.Source.stream l.src).bytes l.input.bytes;
  later : (g.S.Source.stream l.initial.src).faults ≤ (g.S.Source.stream l.src).faults;
}

abbrev pub decreases-reads : goal.decreases-reads
decreases-reads g l = l.limit - length l.input.bytes
