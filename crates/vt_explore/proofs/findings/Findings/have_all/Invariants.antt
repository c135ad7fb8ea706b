use Rattle.std.proofs.Common.{◌≡◌, ℕ, ◌<◌, true}
use Rattle.vt_explore.specs.Findings.{is_found}
use Rattle.vt_explore.proofs.findings.Findings.have_all.Given as goal

abbrev pub invariant-loop-place : goal.invariant-loop-place
invariant-loop-place l = (i : ℕ) → i < l.place → is_found l.self i ≡ true
