use Rattle.std.proofs.Common.{◌≡◌, take}
use Rattle.std.specs.Prelude.{filter_map}
use Rattle.session_run.specs.Runs.{table_of}
use Rattle.session_run.proofs.hooks.hooks_by.Given as goal

abbrev pub invariant-loop-program : goal.invariant-loop-program
invariant-loop-program g l = l.hooks.items ≡ filter_map table_of (take l.program-index l.programs)
