use Rattle.std.proofs.Common.{◌≡◌, ◌∷◌, ◌++◌, map}
use Rattle.session_text.specs.Sessions.{script_of}
use Rattle.session_text.specs.declared.program.Program.TheVariants as programs
use Rattle.session_text.proofs.starts.programs.Given as goal

abbrev pub invariant-loop-keys : goal.invariant-loop-keys
invariant-loop-keys l =
    (goal.iterator-loop-keys).can_next l.keys-iterator
    × (goal.iterator-loop-keys).is_finite l.keys-iterator
    × (l.list.items
    ≡ (programs.Keys l.fn.keys ∷ map script_of l.fn.processes.items) ++ map (λ keys. programs.Keys keys) l.yielded)
