use Rattle.std.proofs.Common.{◌≡◌, ◌++◌, ◌+◌, ◌-◌}
use Rattle.session_run.specs.Final.{consoles_text}
use Rattle.session_run.proofs.final_map.add_parts.Given as goal

abbrev pub invariant-loop-part : goal.invariant-loop-part
invariant-loop-part l =
    l.text.bytes ++ consoles_text l.world (l.part-index + 1) (64 - (l.part-index + 1))
    ≡ l.initial.text.bytes ++ consoles_text l.world 1 63
