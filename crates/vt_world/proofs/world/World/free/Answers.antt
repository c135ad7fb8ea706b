use Rattle.std.proofs.Common.{List, Option, Bool, cond, map, sym, ap, ◌∙◌}
use Rattle.std.specs.Prelude.{is_some}
use Rattle.vt_switch.proofs.Stated.{each_target_was_asked_for-owners}
use Rattle.vt_switch.specs.Acts.{Free}
use Rattle.vt_switch.specs.Calls.{without_console, is_held}
use Rattle.vt_switch.specs.Display.{Display}
use Rattle.vt_world.specs.State.{WorldState, core_of}
use Rattle.vt_world.specs.Terminals.{TerminalState}
use Rattle.vt_world.proofs.Freed.{freed_alike}
use Rattle.vt_world.proofs.Owners.{after_act}
use Rattle.vt_world.proofs.world.World.free.Goals as goal

pub invariant_of-self : goal.invariant_of-self
invariant_of-self c =
    let d : Display = c.self.inside.switch in
    record {
      alike =
          ap (λ (ts : List (Option TerminalState)). map is_some ts) c.end.ensures
          ∙ freed_alike c.args.c c.self.inside.terminals d c.self.invariant.alike
          ∙ sym (ap (λ (e : Display). map is_some e.consoles) c.free.ensures);
      owners =
          after_act each_target_was_asked_for-owners (core_of d c.self.inside.procs)
          (core_of c.free.new.self c.self.inside.procs) (Free c.args.c)
          (ap (λ (held : Bool). core_of (cond held d (without_console d c.args.c)) c.self.inside.procs)
          (ap (λ (w : WorldState). is_held w.display c.args.c) c.self.view_is ∙ c.requires)
          ∙ ap (λ (e : Display). core_of e c.self.inside.procs) (sym c.free.ensures))
          c.self.invariant.owners;
    }
