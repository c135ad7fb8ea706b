use Rattle.std.proofs.Common.{◌≡◌, ◌<◌, List, Option, None, true, arith, get_or, subst, sym}
use Rattle.std.specs.Prelude.{is_some}
use Rattle.vt_switch.proofs.Sets.{among_taken}
use Rattle.vt_switch.specs.Display.{fresh}
use Rattle.vt_switch.specs.declared.console.Console.{Console}
use Rattle.vt_switch.proofs.state.Switch.start.Goals as goal

pub invariant_of-result : goal.invariant_of-result
invariant_of-result c =
    let within : c.args.front < 64 =
    omega (arith, c.stays_in_range.ensures.high) in
    record {
      has_front = subst
          (λ (consoles : List (Option Console)).
          is_some (get_or consoles c.args.front None) ≡ true)
          (sym c.fill.ensures)
          (among_taken c.args.allocated c.args.front fresh within c.requires.has_front);
      has_pending = tt;
    }
