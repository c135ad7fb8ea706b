use Rattle.std.proofs.Common.{◌≡◌, ◌∷◌, map}
use Rattle.session_text.specs.Sessions.{script_of}
use Rattle.session_text.specs.declared.program.Program.TheVariants as programs
use Rattle.session_text.proofs.starts.scripts.Given as goal

abbrev pub invariant-loop-process : goal.invariant-loop-process
invariant-loop-process l =
    (goal.iterator-loop-process).can_next l.process-iterator
    × (goal.iterator-loop-process).is_finite l.process-iterator
    × (l.list.items ≡ programs.Keys l.fn.keys ∷ map script_of l.yielded)
