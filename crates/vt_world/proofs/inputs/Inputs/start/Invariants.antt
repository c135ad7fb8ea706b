use Rattle.std.proofs.Common.{◌≡◌, replicate}
use Rattle.std.specs.Prelude.{vec_len}
use Rattle.vt_world.specs.Inputs.{new_input}
use Rattle.vt_world.proofs.inputs.Inputs.start.Given as goal

abbrev pub invariant-loop-n : goal.invariant-loop-n
invariant-loop-n l = (vec_len l.places ≡ l._n) × (l.places.items ≡ replicate l._n new_input)
