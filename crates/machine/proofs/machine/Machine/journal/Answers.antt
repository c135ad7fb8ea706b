use Rattle.std.proofs.Common.{subst, ap, ◌∙◌, ◌++◌, List}
use Rattle.vt_events.specs.declared.entry.Entry.{Entry}
use Rattle.machine.specs.History.{world_of}
use Rattle.machine.specs.MachineState.{MachineState}
use Rattle.vt_world.specs.History.{IsLegal}
use Rattle.machine.proofs.Continued.{nothing_gone}
use Rattle.machine.proofs.machine.Machine.journal.Goals as goal

pub returns-clause-legal : goal.returns-clause-legal
returns-clause-legal c none =
    let all = c.self.invariant in
    let before = nothing_gone all.before c.self.inside.gone all.size (ap (λ (m : MachineState). m.gone) c.self.view_is ∙ none) in
    subst (λ (m : MachineState). IsLegal (world_of m.start) m.log.entries) c.self.view_is
    (subst (λ (es : List Entry). IsLegal (world_of (record { config = c.self.inside.config; tables = c.self.inside.tables }))
    (es ++ c.self.inside.log.entries)) before all.after.left.legal)
