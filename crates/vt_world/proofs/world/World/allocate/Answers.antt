use Rattle.std.proofs.Common.{◌≡◌, [], ap, map, subst, sym, ◌∙◌}
use Rattle.std.specs.Prelude.{is_some}
use Rattle.vt_switch.proofs.Stated.{each_target_was_asked_for-owners}
use Rattle.vt_world.proofs.Places.{allocated_alike, allocating_same}
use Rattle.vt_switch.specs.Acts.{Allocate}
use Rattle.vt_switch.specs.Display.{Display}
use Rattle.vt_world.proofs.Owners.{after_act}
use Rattle.vt_world.specs.Rows.{with_allocation}
use Rattle.vt_world.specs.Deeds.{apply_deeds}
use Rattle.vt_world.specs.State.{WorldState, core_of}
use Rattle.vt_world.proofs.world.World.allocate.Goals as goal

pub returns-then-allocated-clause-world : goal.returns-then-allocated-clause-world
returns-then-allocated-clause-world c =
    let inside = c.self.inside in
    let w : WorldState = record {
      rows = inside.size.rows;
      cols = inside.size.cols;
      display = inside.switch;
      callers = inside.procs;
      terminals = inside.terminals;
      inputs = inside.inputs;
      board = inside.board;
      trace = inside.trace;
    } in
    subst (λ (v : WorldState). v ≡ apply_deeds v (with_allocation c.args.c [])) c.self.view_is
    (allocating_same w c.args.c c.self.invariant.alike (sym c.allocated.ensures ∙ c.if-allocated.true))

pub invariant_of-self : goal.invariant_of-self
invariant_of-self c = record {
  alike =
      ap (map is_some) c.begin.ensures
      ∙ allocated_alike c.args.c c.in-Some.grid.rows c.in-Some.grid.cols
      c.self.inside.switch.consoles c.self.inside.terminals c.self.invariant.alike
      ∙ sym (ap (λ (d : Display). map is_some d.consoles) c.allocate.ensures);
  owners =
      after_act each_target_was_asked_for-owners
      (core_of c.self.inside.switch c.self.inside.procs) (core_of c.allocate.new.self c.self.inside.procs)
      (Allocate c.args.c)
      (ap (λ (d : Display). core_of d c.self.inside.procs) (sym c.allocate.ensures))
      c.self.invariant.owners;
}
