use Rattle.std.proofs.Common.{rules}
use Rattle.std.specs.Prelude.{Err}
use Rattle.vt_base.specs.declared.errno.Errno.TheVariants.{Busy, Nxio}
use Rattle.vt_events.specs.declared.event.Event.TheVariants as event
use Rattle.vt_world.proofs.Refused.{is_refused}
use Rattle.vt_world.proofs.world.World.disallocate.Goals as goal

pub returns-in_err-owned_console : goal.returns-in_err-owned_console
returns-in_err-owned_console c =
    is_refused c.args.self.now c.args.p (event.Disallocate c.args.fd c.args.n)
    c.in_err-owned_console.field-0.0 c.from_residual.result (search rules) (search rules)

pub returns-in_err-c : goal.returns-in_err-c
returns-in_err-c c =
    is_refused c.args.self.now c.args.p (event.Disallocate c.args.fd c.args.n) Nxio
    c.from_residual-in_err-c.result (search rules) (search rules)

pub returns-then-in_use : goal.returns-then-in_use
returns-then-in_use c =
    is_refused c.args.self.now c.args.p (event.Disallocate c.args.fd c.args.n) Busy (Err Busy)
    (search rules) (search rules)
