-- Plays of the turns of an order.
use Rattle.std.proofs.Common.{◌≡◌, ◌⊎◌, inl, inr, ⊎_elim, ℕ, zero, suc, Bool, true, false, List, [], ◌∷◌, ◌++◌, Option, Some, None, refl, sym, ap, ◌∙◌, subst, append-nil}
use Rattle.std.proofs.lemmas.Bool.{true≢false}
use Rattle.std.proofs.lemmas.List.{append_assoc}
use Rattle.std.specs.List.{range_with_len}
use Rattle.std.specs.Prelude.{if◌then◌else◌, is_some}
use Rattle.vt_explore.specs.Questions.{BeginsWith, IsPlayOf}
use Rattle.session_order.specs.Ends.{Setup}
use Rattle.session_order.specs.Orders.{after_turn, after_turns, history_of, with_call}
use Rattle.session_order.specs.Serial.{IsSerial, Played, call_now, calls, entry_at, nothing_played, round, rounds, turn, turns}
use Rattle.vt_base.specs.Limits.{callers as every_caller}
use Rattle.vt_events.specs.Charge.{charge_of}
use Rattle.vt_events.specs.declared.entry.Entry.{Entry}
use Rattle.vt_events.specs.declared.event.Event.{Event}
use Rattle.vt_journal.specs.Room.{full_at, has_room}

begins_itself : (h : List Entry) → BeginsWith h h
begins_itself h = record { rest = []; is = sym (append-nil h) }

begins_more : (a b c : List Entry) → BeginsWith a b → BeginsWith b c → BeginsWith a c
begins_more a b c long short = record {
  rest = short.rest ++ long.rest;
  is = long.is ∙ ap (λ h. h ++ long.rest) short.is ∙ append_assoc c short.rest long.rest;
}

-- a call of a play, which has room or none
abbrev after_room : Setup → ℕ → Event → List Entry → Bool → Played
after_room o p e h room =
    if room
    then record { history = h ++ entry_at o.start h p e ∷ []; stop = None }
    else record { history = h; stop = Some (full_at h (charge_of e)) }

room_grows : (o : Setup) (p : ℕ) (e : Event) (h : List Entry) (room : Bool)
    → BeginsWith (after_room o p e h room).history h
room_grows o p e h true = record { rest = entry_at o.start h p e ∷ []; is = refl }
room_grows o p e h false = begins_itself h

-- a turn of a play adds at most an entry
call_grows : (o : Setup) (p : ℕ) (now : Option Event) (h : List Entry) → BeginsWith (calls o p now h).history h
call_grows o p None h = begins_itself h
call_grows o p (Some e) h = room_grows o p e h (has_room o.limits h (charge_of e))

abbrev unless_stopped : Setup → ℕ → Played → Bool → Played
unless_stopped o p t stopped = if stopped then t else calls o p (call_now o t.history p) t.history

stop_grows : (o : Setup) (p : ℕ) (t : Played) (stopped : Bool)
    → BeginsWith (unless_stopped o p t stopped).history t.history
stop_grows o p t true = begins_itself t.history
stop_grows o p t false = call_grows o p (call_now o t.history p) t.history

turn_grows : (o : Setup) (p : ℕ) (t : Played) → BeginsWith (turn o p t).history t.history
turn_grows o p t = stop_grows o p t (is_some t.stop)

turns_grow : (o : Setup) (order : List ℕ) (t : Played) → BeginsWith (turns o order t).history t.history
turns_grow o [] t = begins_itself t.history
turns_grow o (p ∷ order) t =
    begins_more (turns o order (turn o p t)).history (turn o p t).history t.history
    (turns_grow o order (turn o p t)) (turn_grows o p t)

rounds_grow : (o : Setup) (n : ℕ) (t : Played) → BeginsWith (rounds o n t).history t.history
rounds_grow o zero t = begins_itself t.history
rounds_grow o (suc n) t =
    begins_more (rounds o n (round o t)).history (round o t).history t.history
    (rounds_grow o n (round o t)) (turns_grow o (range_with_len 0 every_caller) t)

-- a play that stopped stays as it is
turns_stopped : (o : Setup) (order : List ℕ) (t : Played) → is_some t.stop ≡ true → turns o order t ≡ t
turns_stopped o [] t stopped = refl
turns_stopped o (p ∷ order) t stopped =
    let same : turn o p t ≡ t =
    ap (λ is. if is then t else calls o p (call_now o t.history p) t.history) stopped in
    ap (turns o order) same ∙ turns_stopped o order t stopped

rounds_stopped : (o : Setup) (n : ℕ) (t : Played) → is_some t.stop ≡ true → rounds o n t ≡ t
rounds_stopped o zero t stopped = refl
rounds_stopped o (suc n) t stopped =
    ap (rounds o n) (turns_stopped o (range_with_len 0 every_caller) t stopped) ∙ rounds_stopped o n t stopped

-- the turns of an order only add entries
with_grows : (o : Setup) (p : ℕ) (now : Option Event) (h : List Entry) → BeginsWith (with_call o p now h) h
with_grows o p None h = begins_itself h
with_grows o p (Some e) h = record { rest = entry_at o.start h p e ∷ []; is = refl }

after_grows : (o : Setup) (order : List ℕ) (h : List Entry) → BeginsWith (after_turns o order h) h
after_grows o [] h = begins_itself h
after_grows o (p ∷ order) h =
    begins_more (after_turns o order (after_turn o p h)) (after_turn o p h) h
    (after_grows o order (after_turn o p h)) (with_grows o p (call_now o h p) h)

-- the play makes all turns of the order, or stops before
abbrev IsOrderPlay : List Entry → Played → Type 0
IsOrderPlay history t = (t.history ≡ history) ⊎ ((is_some t.stop ≡ true) × BeginsWith history t.history)

room_plays : (o : Setup) (order : List ℕ) (p : ℕ) (e : Event) (h : List Entry)
    → ((from : List Entry) → IsOrderPlay (after_turns o order from) (turns o order (record { history = from; stop = None })))
    → (room : Bool)
    → IsOrderPlay (after_turns o order (h ++ entry_at o.start h p e ∷ [])) (turns o order (after_room o p e h room))
room_plays o order p e h plays true = plays (h ++ entry_at o.start h p e ∷ [])
room_plays o order p e h plays false =
    let longer : List Entry = h ++ entry_at o.start h p e ∷ [] in
    let stays : turns o order (after_room o p e h false) ≡ after_room o p e h false =
    turns_stopped o order (after_room o p e h false) refl in
    subst (IsOrderPlay (after_turns o order longer)) (sym stays)
    (inr (
      refl,
      begins_more (after_turns o order longer) longer h (after_grows o order longer)
          (record { rest = entry_at o.start h p e ∷ []; is = refl }),
    ))

call_plays : (o : Setup) (order : List ℕ) (p : ℕ) (h : List Entry)
    → ((from : List Entry) → IsOrderPlay (after_turns o order from) (turns o order (record { history = from; stop = None })))
    → (now : Option Event)
    → IsOrderPlay (after_turns o order (with_call o p now h)) (turns o order (calls o p now h))
call_plays o order p h plays None = plays h
call_plays o order p h plays (Some e) = room_plays o order p e h plays (has_room o.limits h (charge_of e))

turns_are : (o : Setup) (order : List ℕ) (h : List Entry)
    → IsOrderPlay (after_turns o order h) (turns o order (record { history = h; stop = None }))
turns_are o [] h = inl refl
turns_are o (p ∷ order) h = call_plays o order p h (turns_are o order) (call_now o h p)

-- the rounds that follow change nothing of it
play_ends : (o : Setup) (count : ℕ) (history : List Entry) (first t : Played) → t ≡ rounds o count first
    → IsOrderPlay history first → IsPlayOf history t
play_ends o count history first t is plays =
    ⊎_elim
    (λ all.
    let grows : BeginsWith (rounds o count first).history first.history = rounds_grow o count first in
    let begins : BeginsWith t.history history =
    subst (λ (x : Played). BeginsWith x.history history) (sym is)
    (subst (BeginsWith (rounds o count first).history) all grows) in
    record { whole = λ went_on. begins; cut = λ stopped. inl begins })
    (λ stopped.
    let same : t ≡ first = is ∙ rounds_stopped o count first stopped.0 in
    record {
      whole = λ went_on.
          absurd (true≢false (sym stopped.0 ∙ ap (λ (x : Played). is_some x.stop) (sym same) ∙ went_on));
      cut = λ cut. inr (subst (λ (x : Played). BeginsWith history x.history) (sym same) stopped.1);
    })
    plays

pub played : (o : Setup) (order : List ℕ) (t : Played) → IsSerial o order t → IsPlayOf (history_of o order) t
played o order t serial =
    play_ends o serial.count (history_of o order) (turns o order nothing_played) t serial.played (turns_are o order [])
