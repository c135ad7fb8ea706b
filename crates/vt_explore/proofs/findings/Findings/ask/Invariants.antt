use Rattle.std.proofs.Common.{map}
use Rattle.vt_events.specs.Plain.{plain_reply}
use Rattle.vt_explore.specs.Findings.{AddsPassed}
use Rattle.vt_explore.specs.Questions.{Wants}
use Rattle.vt_explore.proofs.findings.Findings.ask.Given as goal

-- the questions before `place` were asked
abbrev pub invariant-loop-place : goal.invariant-loop-place
invariant-loop-place g l =
    AddsPassed (map g.Q.Question.wants l.questions)
    (λ (wants : Wants). wants l.fn.caller l.event (plain_reply l.reply) l.after) l.order l.place l.fn.self l.self
