use Rattle.std.proofs.Common.{List, Option, ap, map, subst, sym, ◌∙◌}
use Rattle.std.specs.Prelude.{is_some}
use Rattle.vt_world.specs.Terminals.{TerminalState, new_terminal}
use Rattle.vt_world.proofs.Places.{each_alike}
use Rattle.vt_world.proofs.Owners.{first_owners}
use Rattle.vt_switch.specs.Display.{Display, fresh}
use Rattle.vt_switch.specs.Law.{OwnersLive}
use Rattle.vt_world.specs.State.{core_of}
use Rattle.vt_world.proofs.world.World.start.Goals as goal

pub invariant_of-result : goal.invariant_of-result
invariant_of-result c = record {
  alike =
      ap (λ (terminals : List (Option TerminalState)). map is_some terminals) c.in_ok-terminals.ensures
      ∙ each_alike c.args.c.now.consoles
      (new_terminal c.args.c.now.size.rows c.args.c.now.size.cols) fresh
      ∙ sym (ap (λ (d : Display). map is_some d.consoles) c.start-4.ensures);
  owners =
      subst (λ (d : Display). OwnersLive (core_of d c.start-5.result)) (sym c.start-4.ensures)
      (first_owners c.args.c.now.consoles c.args.c.now.front c.start-5.result);
}
