use Rattle.std.proofs.Common.{◌≡◌, ◌≤◌, length, take}
use Rattle.vt_explore.specs.Held.{IsHeld, IsPool}
use Rattle.session_order.specs.Sessions.{setup_of}
use Rattle.vt_explore.proofs.pool.Pool.after.Given as goal

-- the machine is that after the first k turns
abbrev pub invariant-loop-k : goal.invariant-loop-k
invariant-loop-k l = record {
  pool : IsPool (setup_of l.s) l.self;
  at : IsHeld (setup_of l.s) l.held;
  turns : l.held.order ≡ take l.k l.turns;
  few : l.k ≤ length l.turns;
}
