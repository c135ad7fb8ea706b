use Rattle.std.proofs.Common.{sym, subst, ◌∙◌}
use Rattle.session_order.proofs.Standings.{Walks}
use Rattle.session_order.proofs.Stated.{meant_laws-next, meant_laws-plain, race_laws-grows}
use Rattle.session_run.proofs.Working.{not_waiting, works-on, works_over, works_stopped}
use Rattle.session_text.proofs.Stated.{waits_are_ended}
use Rattle.session_run.proofs.worker.work.Goals as goal

pub ask-requires-clause-free : goal.ask-requires-clause-free
ask-requires-clause-free g c = λ call goes.
    not_waiting meant_laws-next waits_are_ended c.args.caller.now c.loop.walk c.args.seat.now c.args.pass.number c.loop.pass c.in-Some-2.event c.loop.invariant
    (λ made s. sym c.in-Some-2.is ∙ c.in_ok-event.ensures made s) call

pub loop-preserved-in-Done : goal.loop-preserved-in-Done
loop-preserved-in-Done g c =
    works-on meant_laws-next meant_laws-plain race_laws-grows _ _ c.args.caller.now c.loop.walk c.took.new.self c.args.seat.now c.args.pass.number c.in-Some-2.event c.loop.pass c.ask.new.pass c.in-Done.at c.in-Done.reply c.in_ok-at.field-0
    c.loop.invariant (λ made s. sym c.in-Some-2.is ∙ c.in_ok-event.ensures made s)
    c.in_ok-at.ensures.ok c.in-Done.is
    (subst (λ p. Walks p c.loop.walk c.took.new.self c.in-Done.reply) c.program-program.ensures (record { took = c.took.ensures }))

pub loop-preserved : goal.loop-preserved
loop-preserved g c =
    works-on meant_laws-next meant_laws-plain race_laws-grows _ _ c.args.caller.now c.loop.walk c.took.new.self c.args.seat.now c.args.pass.number c.in-Some-2.event c.loop.pass c.ask.new.pass c.in-Done.at c.in-Done.reply c.in_ok-at.field-0
    c.loop.invariant (λ made s. sym c.in-Some-2.is ∙ c.in_ok-event.ensures made s)
    c.in_ok-at.ensures.ok c.in-Done.is
    (subst (λ p. Walks p c.loop.walk c.took.new.self c.in-Done.reply) c.program-program.ensures (record { took = c.took.ensures }))

pub returns-in_default-clause-works : goal.returns-in_default-clause-works
returns-in_default-clause-works g c =
    works_over meant_laws-next c.args.caller.now c.loop.walk c.args.seat.now c.args.pass.number c.loop.pass
    c.loop.invariant (λ made s. sym c.in_default.is ∙ c.in_ok-event.ensures made s)

pub returns-in-Full-clause-works : goal.returns-in-Full-clause-works
returns-in-Full-clause-works g c =
    works_stopped meant_laws-next _ _ c.args.caller.now c.loop.walk c.args.seat.now c.args.pass.number c.in-Some-2.event c.loop.pass
    c.ask.new.pass c.in-Full.field-0 c.in_ok-at.field-0 c.loop.invariant
    (λ made s. sym c.in-Some-2.is ∙ c.in_ok-event.ensures made s) c.in_ok-at.ensures.ok c.in-Full.is
