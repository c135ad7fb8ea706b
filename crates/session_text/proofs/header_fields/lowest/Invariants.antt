use Rattle.std.proofs.Common.{◌≡◌}
use Rattle.session_text.specs.Openings.{lowest_from}
use Rattle.session_text.proofs.header_fields.lowest.Given as goal

abbrev pub invariant-loop-n : goal.invariant-loop-n
invariant-loop-n l = lowest_from l.consoles l.n ≡ lowest_from l.consoles 1
