use Rattle.std.proofs.Common.{subst, sym, List, [], ℕ, arith}
use Rattle.machine.specs.History.{IsAfter, Start}
use Rattle.machine.proofs.Afters.{at_start}
use Rattle.vt_world.proofs.Stated.{legal_grows-nothing}
use Rattle.machine.proofs.machine.Machine.new.Goals as goal

pub invariant_of-result : goal.invariant_of-result
invariant_of-result c =
    let s : Start = record { config = c.args.config; tables = c.args.tables } in record {
      before = [];
      size = omega arith;
      after =
          subst (λ (made : List ℕ). IsAfter s c.in_ok-log.log.entries c.in_ok-world.world made) (sym c.no_calls.ensures)
          (at_start s c.in_ok-log.log.entries c.in_ok-world.world legal_grows-nothing
          (record { consoles = c.requires.consoles; keyboards = c.requires.keyboards; processes = c.as_slice-few.ensures.few })
          c.in_ok-log.ensures.entries c.in_ok-world.ensures);
    }
