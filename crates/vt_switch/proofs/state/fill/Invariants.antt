use Rattle.std.proofs.Common.{◌≡◌, ◌<◌, ℕ, Some, None, get_or}
use Rattle.std.specs.Prelude.{if◌then◌else◌}
use Rattle.vt_switch.specs.Display.{fresh}
use Rattle.vt_base.specs.ConsoleSet.{is_among}
use Rattle.vt_switch.proofs.state.fill.Given as goal

abbrev pub invariant-loop-n : goal.invariant-loop-n
invariant-loop-n l = (k : ℕ) → k < l.n
    → get_or l.consoles k None ≡ (if is_among l.allocated k then Some fresh else None)
