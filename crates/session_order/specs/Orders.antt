-- Orders of a session's calls: whose turn is next, turn by turn. Histories and orders are the same. This project's own.
use Rattle.std.specs.Prelude.{◌≡◌, ℕ, List, [], ◌∷◌, ◌++◌, map, take, Option, Some, None, slice_get}
use Rattle.session_order.specs.Ends.{Setup}
use Rattle.session_order.specs.Follows.{Follows}
use Rattle.session_order.specs.Laws.{IsFromStart}
use Rattle.session_order.specs.Meant.{plain_history}
use Rattle.session_order.specs.Serial.{call_now, entry_at}
use Rattle.vt_events.specs.Plain.{plain_entry, plain_event}
use Rattle.vt_events.specs.declared.entry.Entry.{Entry}
use Rattle.vt_events.specs.declared.event.Event.{Event}
use Rattle.vt_world.specs.History.{IsLegal}

-- p makes this call, if there is one
abbrev pub with_call : Setup → ℕ → Option Event → List Entry → List Entry
with_call o p None history = history
with_call o p (Some e) history = history ++ entry_at o.start history p e ∷ []

-- a turn of p: it makes its next call, if it can make one
abbrev pub after_turn : Setup → ℕ → List Entry → List Entry
after_turn o p history = with_call o p (call_now o history p) history

-- the turns of an order, one after another
abbrev pub after_turns : Setup → List ℕ → List Entry → List Entry
after_turns o [] history = history
after_turns o (p ∷ order) history = after_turns o order (after_turn o p history)

-- the history of an order
abbrev pub history_of : Setup → List ℕ → List Entry
history_of o order = after_turns o order []

-- the callers of these entries, in their order
abbrev pub order_of : List Entry → List ℕ
order_of history = map (λ (entry : Entry). entry.caller) history

-- the history of an order is legal and follows the programs
abbrev pub OrdersAreLegal : Type 0
OrdersAreLegal =
    (o : Setup) (order : List ℕ)
    → IsLegal o.start (history_of o order) × Follows o.start o.programs (history_of o order)

-- a legal history that follows the programs is that of the order of its callers
abbrev pub HistoriesAreOrders : Type 0
HistoriesAreOrders =
    (o : Setup) (history : List Entry) → IsFromStart o → IsLegal o.start history
    → Follows o.start o.programs history → plain_history history ≡ history_of o (order_of history)

-- these entries are the history of their order, and this one is the next turn of its caller
pub record IsTurn (o : Setup) (before : List Entry) (entry : Entry) : Type 0 where
  pub same : plain_history before ≡ history_of o (order_of before)
  pub now : call_now o (history_of o (order_of before)) entry.caller ≡ Some (plain_event entry.event)
  pub made :
      entry_at o.start (history_of o (order_of before)) entry.caller (plain_event entry.event) ≡ plain_entry entry

-- each entry of a legal history that follows the programs is the next turn of its caller
abbrev pub EntriesAreTurns : Type 0
EntriesAreTurns =
    (o : Setup) (history : List Entry) (k : ℕ) (entry : Entry) → IsFromStart o → IsLegal o.start history
    → Follows o.start o.programs history → slice_get history k ≡ Some entry
    → IsTurn o (take k history) entry
