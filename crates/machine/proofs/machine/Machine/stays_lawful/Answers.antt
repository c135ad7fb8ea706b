use Rattle.std.proofs.Common.{subst, ap, ◌∙◌, ◌++◌, List}
use Rattle.vt_events.specs.declared.entry.Entry.{Entry}
use Rattle.machine.specs.History.{Start, world_of}
use Rattle.machine.specs.MachineState.{MachineState, ObeysLaws}
use Rattle.vt_world.proofs.Stated.{displays_are_lawful-lawful, screens_are_tapes-screens}
use Rattle.vt_world.specs.State.{WorldState}
use Rattle.vt_world.specs.Terminals.{emu_of, terminal_at}
use Rattle.machine.proofs.Afters.{is_start}
use Rattle.machine.proofs.machine.Machine.stays_lawful.Goals as goal

pub returns : goal.returns
returns c =
    let s : Start = record { config = c.self.inside.config; tables = c.self.inside.tables } in
    let all : List Entry = c.self.invariant.before ++ c.self.inside.log.entries in
    let m : MachineState = record {
      start = s;
      world = c.self.inside.world;
      made = c.self.inside.made;
      gone = c.self.inside.gone;
      log = c.self.inside.log;
    } in
    let here : ObeysLaws m = record {
      calls = c.self.invariant;
      displays = displays_are_lawful-lawful (world_of s) all (is_start s c.self.invariant.after.fit);
      screens = λ n low.
          ap (λ (w : WorldState). emu_of (terminal_at w.terminals n)) c.self.invariant.after.left.replayed
          ∙ screens_are_tapes-screens (world_of s) all (is_start s c.self.invariant.after.fit) n low;
    } in
    subst (λ (x : MachineState). ObeysLaws x) c.self.view_is here
