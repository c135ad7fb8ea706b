use Rattle.std.proofs.Common.{◌≡◌, IfSome, Option, subst, sym, ◌∙◌}
use Rattle.machine.specs.History.{world_of}
use Rattle.machine.specs.MachineState.{MachineState}
use Rattle.vt_world.specs.History.{IsLegal}
use Rattle.machine_c.proofs.journal.vt_lent_machine_journal.Goals as goal
use Rattle.machine_c.proofs.journal.vt_lent_machine_journal.Goals.{in-None, in-Some}

pub returns-clause-legal : goal.returns-clause-legal
returns-clause-legal c =
    let whole : Option MachineState → Type 0 =
    λ (o : Option MachineState). IfSome o (λ m. m.gone ≡ 0 → IsLegal (world_of m.start) m.log.entries) in
    elim c.match-get.branch [
      | in-None w ↦ subst whole (sym w.in-None.ensures ∙ c.take-lent.ensures.old.0) tt
      | in-Some w ↦ subst whole (sym w.in-Some.ensures ∙ c.take-lent.ensures.old.0) w.journal-answer.ensures.legal
    ]
