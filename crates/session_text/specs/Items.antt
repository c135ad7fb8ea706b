-- The view that contracts have of `Items`.
use Rattle.std.specs.Prelude.{ℕ, List}
use Rattle.vt_events.specs.declared.event.Event.{Event}

-- the calls of a script in order, and how many more fit
pub record Listed : Type 0 where
  pub events : List Event
  pub room : ℕ
