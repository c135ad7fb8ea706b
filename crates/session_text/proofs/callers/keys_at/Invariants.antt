use Rattle.std.proofs.Common.{◌≡◌, drop, filter}
use Rattle.std.specs.Prelude.{slice_get}
use Rattle.session_text.specs.Programs.{is_keys}
use Rattle.session_text.proofs.callers.keys_at.Given as goal

abbrev pub invariant-loop-program : goal.invariant-loop-program
invariant-loop-program l =
    slice_get (filter is_keys (drop l.program-index l.programs)) l.left ≡ slice_get (filter is_keys l.programs) l.k
