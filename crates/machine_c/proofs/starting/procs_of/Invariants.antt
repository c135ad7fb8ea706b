use Rattle.std.proofs.Common.{◌≡◌, map, take}
use Rattle.std.specs.List.{All}
use Rattle.machine_c.specs.Started.{IsSeat, rights_of}
use Rattle.machine_c.proofs.starting.procs_of.Given as goal

abbrev pub invariant-loop-i : goal.invariant-loop-i
invariant-loop-i l = record {
  procs : l.procs ≡ map rights_of (take l.i l.seats);
  each : All IsSeat (take l.i l.seats);
}
