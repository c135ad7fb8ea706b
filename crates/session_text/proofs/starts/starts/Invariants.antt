use Rattle.std.proofs.Common.{◌≡◌, map, take}
use Rattle.session_text.specs.declared.process.Process.{Process}
use Rattle.session_text.proofs.starts.starts.Given as goal

abbrev pub invariant-loop-process : goal.invariant-loop-process
invariant-loop-process l =
    l.starts ≡ map (λ (process : Process). process.start) (take l.process-index l.processes)
