use Rattle.std.proofs.Common.{ap, arith, refl, ◌∙◌}
use Rattle.std.specs.Prelude.{length}
use Rattle.vt_events.specs.declared.event.Event.{Event}
use Rattle.vt_events.specs.declared.event.Event.TheVariants as event
use Rattle.vt_world.specs.Step.{own_row_result}
use Rattle.vt_world.proofs.Answered.{no_bytes}
use Rattle.vt_world.proofs.world.World.carry_out.Goals as goal

pub returns-in-Disallocate-clause-bytes : goal.returns-in-Disallocate-clause-bytes
returns-in-Disallocate-clause-bytes c =
    omega (
      arith,
      ap length
          (no_bytes c.args.self.now c.args.p
          (event.Disallocate c.in-Disallocate.fd c.in-Disallocate.n)
          _ _ refl c.disallocate.ensures),
    )

pub returns-in-OpenQry-clause-bytes : goal.returns-in-OpenQry-clause-bytes
returns-in-OpenQry-clause-bytes c =
    omega
    (arith, ap length (no_bytes c.args.self.now c.args.p (event.OpenQry c.in-OpenQry.fd) _ _ refl c.open_query.ensures))

pub returns-in-SetEntry-clause-bytes : goal.returns-in-SetEntry-clause-bytes
returns-in-SetEntry-clause-bytes c =
    omega (
      arith,
      ap length
          (no_bytes c.args.self.now c.args.p
          (event.SetEntry c.in-SetEntry.fd c.in-SetEntry.table c.in-SetEntry.code c.in-SetEntry.kind
          c.in-SetEntry.value)
          _ _ refl c.set_entry.ensures),
    )

pub returns-in-Dump-clause-effect : goal.returns-in-Dump-clause-effect
returns-in-Dump-clause-effect c =
    ap (λ (e : Event). own_row_result c.args.self.now c.args.p e) c.in-Dump.is ∙ c.dump.ensures.effect
