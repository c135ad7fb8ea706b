-- Machines that are kept, each after the turns of an order. No public clause names this.
use Rattle.std.specs.Prelude.{◌≡◌, ◌≤◌, ℕ, List, [], Some, length, slice_get, take}
use Rattle.vt_explore.specs.Positions.{IsAfter}
use Rattle.vt_explore.specs.declared.position.Position.{Position}
use Rattle.session_order.specs.Ends.{Setup}
use Rattle.session_order.specs.Orders.{history_of}

-- a machine and an order
pub record HeldState : Type 0 where
  pub order : List ℕ
  pub position : Position

-- the machine is that after the turns of the order
abbrev pub IsHeld : Setup → HeldState → Type 0
IsHeld o held = IsAfter o (history_of o held.order) held.position

-- so are all of these
abbrev pub AreHeld : Setup → List HeldState → Type 0
AreHeld o all = (k : ℕ) (held : HeldState) → slice_get all k ≡ Some held → IsHeld o held

-- the order begins with the turns of another one
pub record Begins (order first : List ℕ) : Type 0 where
  pub few : length first ≤ length order
  pub same : take (length first) order ≡ first

-- the machine before the first turn, machines that aren't needed, those along the last order that was opened, and
-- those after the orders that were found last
pub record PoolState : Type 0 where
  pub start : HeldState
  pub spares : List HeldState
  pub trail : List HeldState
  pub recent : List HeldState

pub record IsPool (o : Setup) (pool : PoolState) : Type 0 where
  pub start : IsHeld o pool.start
  pub first : pool.start.order ≡ []
  pub spares : AreHeld o pool.spares
  pub trail : AreHeld o pool.trail
  pub recent : AreHeld o pool.recent
