use Rattle.std.proofs.Common.{Bool, map}
use Rattle.vt_events.specs.Plain.{plain_reply}
use Rattle.vt_explore.proofs.Finding.{passed_none, question_at, passed_more}
use Rattle.vt_explore.specs.Questions.{Wants}
use Rattle.vt_explore.proofs.findings.Findings.ask.Goals as goal

pub loop-place-init : goal.loop-place-init
loop-place-init g c =
    passed_none (map g.Q.Question.wants c.args.questions.now)
    (λ (wants : Wants). wants c.args.caller c.args.event.now (plain_reply c.args.reply.now) c.args.after.now) c.args.order.now
    c.args.self.now

pub loop-place-preserved : goal.loop-place-preserved
loop-place-preserved g c =
    let passes : Wants → Bool =
    λ wants. wants c.args.caller c.args.event.now (plain_reply c.args.reply.now) c.args.after.now in
    passed_more (map g.Q.Question.wants c.args.questions.now) passes c.args.order.now c.loop-place.place c.args.self.now
    c.loop-place.self c.ask_one.new.self (g.Q.Question.wants c.index-questions-place.result)
    (question_at g.Q.Question.wants c.args.questions.now c.loop-place.place c.index-questions-place.result
    c.loop-place-test.true c.index-questions-place.is)
    c.loop-place.invariant c.in_ok-ask_one.ensures
