use Rattle.std.proofs.Common.{◌≡◌, ◌++◌, ◌-◌}
use Rattle.session_run.specs.Final.{consoles_text}
use Rattle.session_run.proofs.final_texts.add_consoles.Given as goal

abbrev pub invariant-loop-n : goal.invariant-loop-n
invariant-loop-n l =
    l.text.bytes ++ consoles_text l.world l.n (64 - l.n)
    ≡ l.initial.text.bytes ++ consoles_text l.world 1 63
