-- Histories after which everything goes on alike. This project's own.
use Rattle.std.specs.Prelude.{◌≡◌, ◌≤◌, ℕ, ◌++◌, List, length, map, Some, slice_get}
use Rattle.session_order.specs.Calls.{as_meant, calls_by, next_of}
use Rattle.session_order.specs.Ends.{Setup}
use Rattle.session_text.specs.Programs.{Call, program_of}
use Rattle.vt_events.specs.declared.entry.Entry.{Entry}
use Rattle.vt_world.specs.Heard.{without_marks}
use Rattle.vt_world.specs.History.{replay}
use Rattle.session_order.specs.Orders.{history_of}

-- after both histories the machine is the same, except for the marks of the last call, and each program has the
-- same calls left, whatever their answers
pub record AreAlike (o : Setup) (a b : List Entry) : Type 0 where
  pub world : without_marks (replay o.start a) ≡ without_marks (replay o.start b)
  pub ahead :
      (p : ℕ) (more : List Call)
      → next_of (program_of o.programs p) (calls_by p a ++ map as_meant more)
      ≡ next_of (program_of o.programs p) (calls_by p b ++ map as_meant more)

-- one of these orders has a history like this one, with no more entries
pub record HasLike (o : Setup) (known : List (List ℕ)) (history : List Entry) : Type 0 where
  pub place : ℕ
  pub order : List ℕ
  pub at : slice_get known place ≡ Some order
  pub alike : AreAlike o (history_of o order) history
  pub few : length (history_of o order) ≤ length history

-- new is old with more orders at its end
pub record Extends (old new : List (List ℕ)) : Type 0 where
  pub more : List (List ℕ)
  pub is : new ≡ old ++ more
