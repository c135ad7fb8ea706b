-- Searches over orders. Public clauses name only `OpenedAreAll`.
use Rattle.std.specs.Prelude.{◌≡◌, ◌<◌, ◌≤◌, ◌+◌, ⊤, ℕ, Bool, true, false, List, [], ◌∷◌, ◌++◌, length, Some, None, slice_get}
use Rattle.vt_explore.specs.Alike.{HasLike}
use Rattle.vt_explore.specs.Questions.{Wants}
use Rattle.vt_explore.specs.declared.opened.Opened.{Opened}
use Rattle.vt_explore.specs.declared.opened.Opened.TheVariants as opened
use Rattle.vt_explore.specs.declared.tried.Tried.{Tried}
use Rattle.vt_explore.specs.declared.tried.Tried.TheVariants as tried
use Rattle.session_order.specs.Ends.{Setup}
use Rattle.session_order.specs.Orders.{history_of}
use Rattle.session_order.specs.Serial.{call_now, entry_at}
use Rattle.vt_events.specs.declared.entry.Entry.{Entry}
use Rattle.vt_events.specs.declared.event.Event.{Event}
use Rattle.vt_world.specs.History.{replay}
use Rattle.vt_world.specs.State.{WorldState}
use Rattle.vt_world.specs.Step.{step}

-- whether the call of p in this machine is asked for
abbrev pub is_wanted : Wants → WorldState → ℕ → Event → Bool
is_wanted wants w p e = wants p e (step w p e).reply (step w p e).world

-- p can make a call directly after this history that is asked for
pub record Makes (wants : Wants) (o : Setup) (history : List Entry) (p : ℕ) : Type 0 where
  pub call : Event
  pub now : call_now o history p ≡ Some call
  pub wanted : is_wanted wants (replay o.start history) p call ≡ true

-- the order has one turn more than `before`, and that turn makes a call that is asked for
pub record EndsAsked (wants : Wants) (o : Setup) (before order : List ℕ) : Type 0 where
  pub last : ℕ
  pub parts : order ≡ before ++ last ∷ []
  pub makes : Makes wants o (history_of o before) last
  -- each turn before it makes a call
  pub full : length (history_of o before) ≡ length before

-- no order makes a call that is asked for
abbrev pub NoneMakes : Wants → Setup → Type 0
NoneMakes wants o = (order : List ℕ) (p : ℕ) → Makes wants o (history_of o order) p → ⊥

-- no order makes a call that is asked for directly after fewer than n calls
abbrev pub NoneMakesBefore : Wants → Setup → ℕ → Type 0
NoneMakesBefore wants o n =
    (order : List ℕ) (p : ℕ) → Makes wants o (history_of o order) p → n ≤ length (history_of o order)

-- the order ends with a call that is asked for, and no order makes one after fewer calls
pub record IsFirst (wants : Wants) (o : Setup) (order : List ℕ) : Type 0 where
  pub before : List ℕ
  pub ends : EndsAsked wants o before order
  pub first : NoneMakesBefore wants o (length (history_of o before))

-- each call that p can make after this history isn't asked for, and leads to a history like one of these orders'
pub record IsOpened (wants : Wants) (o : Setup) (known : List (List ℕ)) (history : List Entry)
    (p : ℕ) : Type 0 where
  pub other :
      (e : Event) → call_now o history p ≡ Some e
      → is_wanted wants (replay o.start history) p e ≡ false
  pub leads :
      (e : Event) → call_now o history p ≡ Some e
      → HasLike o known (history ++ entry_at o.start history p e ∷ [])

-- each of the first n known orders is opened
abbrev pub AreOpened : Wants → Setup → List (List ℕ) → ℕ → Type 0
AreOpened wants o known n =
    (k : ℕ) (order : List ℕ) (p : ℕ) → k < n → slice_get known k ≡ Some order
    → IsOpened wants o known (history_of o order) p

-- no known order has more calls than a later one, none has more than `most`, and each turn of each makes a call
pub record AreSorted (o : Setup) (known : List (List ℕ)) (most : ℕ) : Type 0 where
  pub rises :
      (j k : ℕ) (a b : List ℕ) → j ≤ k → slice_get known j ≡ Some a → slice_get known k ≡ Some b
      → length (history_of o a) ≤ length (history_of o b)
  pub few : (k : ℕ) (a : List ℕ) → slice_get known k ≡ Some a → length (history_of o a) ≤ most
  pub full : (k : ℕ) (a : List ℕ) → slice_get known k ≡ Some a → length (history_of o a) ≡ length a

-- if the start is known, and all known orders are opened, no call is asked for in any order
abbrev pub OpenedAreAll : Type 0
OpenedAreAll =
    (wants : Wants) (o : Setup) (known : List (List ℕ)) (n : ℕ) → HasLike o known [] → AreOpened wants o known n
    → slice_get known n ≡ None → NoneMakes wants o

-- how many orders are known then: one more than the limit if there are too many, and otherwise at most as many
abbrev pub HasCount : Opened → ℕ → ℕ → Type 0
HasCount opened.Many limit count = count ≡ limit + 1
HasCount t limit count = count ≤ limit

abbrev pub IfAll : Opened → Type 0 → Type 0
IfAll opened.All fact = fact
IfAll t fact = ⊤

abbrev pub IfKnown : Tried → Type 0 → Type 0
IfKnown tried.Known fact = fact
IfKnown t fact = ⊤
