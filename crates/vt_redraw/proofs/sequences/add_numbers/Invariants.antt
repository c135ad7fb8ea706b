use Rattle.std.proofs.Common.{◌≡◌, ◌++◌, drop}
use Rattle.vt_redraw.specs.Sequences.{more_numbers}
use Rattle.vt_redraw.proofs.sequences.add_numbers.Given as goal

abbrev pub invariant-loop-n : goal.invariant-loop-n
invariant-loop-n l =
    l.text.bytes ++ more_numbers (drop l.n-index l.numbers) ≡ l.initial.text.bytes ++ more_numbers l.numbers
