use Rattle.std.proofs.Common.{◌≡◌, length}
use Rattle.vt_screen.specs.Run.{after}
use Rattle.vt_screen.proofs.emu.Emu.write.Given as goal

-- the rest is still to be run
abbrev pub invariant-loop-rest : goal.invariant-loop-rest
invariant-loop-rest l = after l.self l.rest ≡ after l.fn.self l.b

abbrev pub decreases-loop-rest : goal.decreases-loop-rest
decreases-loop-rest l = length l.rest
