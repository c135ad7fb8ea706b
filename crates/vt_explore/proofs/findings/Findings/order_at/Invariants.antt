use Rattle.std.proofs.Common.{◌≡◌, false, take}
use Rattle.vt_explore.specs.Findings.{is_found}
use Rattle.vt_explore.proofs.findings.Findings.order_at.Given as goal

-- none of the findings before `place` is for the question
abbrev pub invariant-loop-place : goal.invariant-loop-place
invariant-loop-place l = is_found (take l.place l.self) l.question ≡ false
