use Rattle.std.proofs.Common.{◌≡◌, ℕ, arith, sym, ◌∙◌}
use Rattle.session_run.proofs.HavePrograms.{caller_less, caller_more, callers_are, found_tells}
use Rattle.session_run.proofs.callers.numbers_in.Goals.{then-is_some+in_ok-push, else-is_some}
use Rattle.session_run.proofs.callers.numbers_in.Goals as goal

pub loop-i-preserved : goal.loop-i-preserved
loop-i-preserved c =
    let p : ℕ = c.numbered-p.result in
    let tells = found_tells (λ program. program.now) c.args.programs.now p c.program_of.result c.program_of.ensures in
    elim c.if-is_some.branch [
      | then-is_some+in_ok-push w ↦
          rw (w.numbers-is)
          (caller_more c.args.programs.now c.loop-i.i p c.loop-i.numbers.items w.push.new.self.items c.numbered-p.ensures
          (sym tells ∙ sym c.is_some.ensures ∙ w.if-is_some.true) c.loop-i.invariant w.in_ok-push.ensures.items)
      | else-is_some w ↦
          rw (w.numbers-is)
          (caller_less c.args.programs.now c.loop-i.i p c.loop-i.numbers.items c.numbered-p.ensures
          (sym tells ∙ sym c.is_some.ensures ∙ w.if-is_some.false) c.loop-i.invariant)
    ]

pub returns : goal.returns
returns c =
    let end : c.loop-i.i ≡ 68 = omega (arith, c.loop-i-test.false, c.loop-i.auto.i-end) in
    callers_are c.args.programs.now c.loop-i.i c.loop-i.numbers.items end c.loop-i.invariant
