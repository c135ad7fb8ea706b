-- Questions about the calls of a session, and their answers over all its histories. This project's own.
use Rattle.std.specs.Prelude.{◌≡◌, ◌≤◌, ◌+◌, ⊤, ◌⊎◌, ℕ, Bool, true, false, List, [], ◌∷◌, ◌++◌, length, take, Option, Some, None, is_some, slice_get}
use Rattle.vt_explore.specs.declared.outcome.End.{End}
use Rattle.vt_explore.specs.declared.outcome.End.TheVariants as stop
use Rattle.session_order.specs.Follows.{Follows}
use Rattle.session_order.specs.Orders.{history_of}
use Rattle.session_order.specs.Serial.{IsSerial, Played}
use Rattle.session_order.specs.Sessions.{IsRightHistory, setup_of, start_of}
use Rattle.session_text.specs.Sessions.{SessionView}
use Rattle.vt_events.specs.Plain.{plain_event, plain_reply}
use Rattle.vt_events.specs.declared.entry.Entry.{Entry}
use Rattle.vt_events.specs.declared.event.Event.{Event}
use Rattle.vt_events.specs.declared.reply.Reply.{Reply}
use Rattle.vt_journal.specs.declared.tail.Tail.{Tail}
use Rattle.vt_world.specs.History.{IsLegal, replay}
use Rattle.vt_world.specs.State.{WorldState}

-- which calls are asked for: by the caller, the call, its answer, and the machine after it with the call's marks
abbrev pub Wants : Type 0
Wants = ℕ → Event → Reply → WorldState → Bool

-- the entry directly after these is asked for
abbrev pub IsAsked : Wants → WorldState → List Entry → Entry → Type 0
IsAsked wants start before entry =
    wants entry.caller (plain_event entry.event) (plain_reply entry.reply) (replay start (before ++ entry ∷ []))
    ≡ true

-- no history that is legal and follows the programs, ended or not, has an entry that is asked for
abbrev pub IsNever : Wants → SessionView → Type 0
IsNever wants s =
    (history : List Entry) (k : ℕ) (entry : Entry) → IsLegal (start_of s) history
    → Follows (start_of s) s.programs history → slice_get history k ≡ Some entry
    → IsAsked wants (start_of s) (take k history) entry → ⊥

-- no such history has an entry that is asked for with fewer than n entries before it
abbrev pub IsNotBefore : Wants → SessionView → ℕ → Type 0
IsNotBefore wants s n =
    (history : List Entry) (k : ℕ) (entry : Entry) → IsLegal (start_of s) history
    → Follows (start_of s) s.programs history → slice_get history k ≡ Some entry
    → IsAsked wants (start_of s) (take k history) entry → n ≤ k

-- the history of this order is legal and follows the programs, each turn makes a call, the last entry is asked for,
-- and no shorter history has such an entry
pub record IsFound (wants : Wants) (s : SessionView) (order : List ℕ) : Type 0 where
  pub before : List Entry
  pub last : Entry
  pub history : history_of (setup_of s) order ≡ before ++ last ∷ []
  pub turns : length order ≡ length before + 1
  pub legal : IsLegal (start_of s) (before ++ last ∷ [])
  pub follows : Follows (start_of s) s.programs (before ++ last ∷ [])
  pub asked : IsAsked wants (start_of s) before last
  pub shortest : IsNotBefore wants s (length before)

-- each order that was found is one for the question at its place
abbrev pub AreFound : List Wants → SessionView → List (Option (List ℕ)) → Type 0
AreFound questions s found =
    (i : ℕ) (wants : Wants) (order : List ℕ) → slice_get questions i ≡ Some wants
    → slice_get found i ≡ Some (Some order) → IsFound wants s order

-- a question without an order has none in any history
abbrev pub AreNever : List Wants → SessionView → List (Option (List ℕ)) → Type 0
AreNever questions s found =
    (i : ℕ) (wants : Wants) → slice_get questions i ≡ Some wants → slice_get found i ≡ Some None
    → IsNever wants s

-- a fact of a search that tried every order
abbrev pub IfWhole : End → Type 0 → Type 0
IfWhole stop.Whole fact = fact
IfWhole end fact = ⊤

-- a fact of a search that has an order for each question
abbrev pub IfAnswered : End → Type 0 → Type 0
IfAnswered stop.Answered fact = fact
IfAnswered end fact = ⊤

-- a fact of a search that came to its limit
abbrev pub IfLimit : End → Type 0 → Type 0
IfLimit stop.Limit fact = fact
IfLimit end fact = ⊤

-- how many states a search with this limit distinguished: one more than the limit exactly if it ended by it, and
-- otherwise at most as many
abbrev pub HasStates : End → ℕ → ℕ → Type 0
HasStates stop.Limit limit states = states ≡ limit + 1
HasStates end limit states = states ≤ limit

-- if no such history has one, no right history of the session has one: that of a journal, ended or full
abbrev pub NeverInJournals : Type 0
NeverInJournals =
    (wants : Wants) (s : SessionView) (console : WorldState) (history : List Entry) (end : Tail) (k : ℕ)
    (entry : Entry) → IsNever wants s → IsRightHistory s console history end → slice_get history k ≡ Some entry
    → IsAsked wants (start_of s) (take k history) entry → ⊥

-- a history begins with another one
pub record BeginsWith (history first : List Entry) : Type 0 where
  pub rest : List Entry
  pub is : history ≡ first ++ rest

-- the play begins with this history, or it stopped before, since its journal is full
pub record IsPlayOf (history : List Entry) (t : Played) : Type 0 where
  pub whole : is_some t.stop ≡ false → BeginsWith t.history history
  pub cut : is_some t.stop ≡ true → BeginsWith t.history history ⊎ BeginsWith history t.history

-- so it is with each play of the turns of an order, and that order's history
abbrev pub OrdersArePlayed : Type 0
OrdersArePlayed =
    (s : SessionView) (order : List ℕ) (t : Played) → IsSerial (setup_of s) order t
    → IsPlayOf (history_of (setup_of s) order) t
