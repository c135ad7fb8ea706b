use Rattle.std.proofs.Common.{◌∷◌, []}
use Rattle.session_run.proofs.Drilling.{SoFar}
use Rattle.session_run.specs.Drill.{keys, script}
use Rattle.session_text.specs.declared.program.Program.TheVariants as programs
use Rattle.vt_events.specs.Kinds.{text}
use Rattle.session_run.proofs.drill.programs.Given as goal

abbrev pub invariant-loop-i : goal.invariant-loop-i
invariant-loop-i l = SoFar (script l.n) l.i 1 l.seed (programs.Keys (text (keys l.n)) ∷ []) l.list.items l.draws
