use Rattle.std.proofs.Common.{◌<◌, arith}
use Rattle.std.proofs.lemmas.Bool.{false≢true}
use Rattle.vt_base.specs.Limits.{callers}
use Rattle.vt_check.proofs.VerdictLaws.{caller_known}
use Rattle.vt_check.proofs.judge.Judge.someone_calls.Goals as goal

pub returns : goal.returns
returns c = λ o h at. (
  λ no_way. absurd (false≢true no_way),
  λ has.
      let known : has.0 < callers =
      at.callers has.0 (caller_known o.programs has.0 h has.1.call has.1.next) in
      absurd (c.loop-i.invariant o h at has.0 (omega (arith, known, c.loop-i-test.false)) has.1),
)
