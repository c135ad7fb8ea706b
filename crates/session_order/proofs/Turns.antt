-- The facts that a play keeps: its history is legal, follows the programs, is within the limits, and stops at a
-- call that finds no room. Rounds of a play that is finished change nothing.
use Rattle.std.proofs.Common.{◌≡◌, ◌⊎◌, ℕ, ◌+◌, ◌<◌, zero, suc, Bool, true, false, ⊎_elim, arith, List, [], ◌∷◌, ◌++◌, length, get_or, take, Option, Some, None, refl, sym, ap, ◌∙◌, subst, length-append, cond, ◌≤◌}
use Rattle.std.proofs.lemmas.Bool.{cases_Bool, both_ways}
use Rattle.std.proofs.lemmas.Bool.Decides.{nat_tests}
use Rattle.std.proofs.lemmas.List.Sums.{sum_by-append}
use Rattle.std.proofs.lemmas.Option.{none-some, same_Some}
use Rattle.std.specs.List.{range_with_len}
use Rattle.std.specs.Prelude.{slice_get, if◌then◌else◌}
use Rattle.session_order.proofs.Programs.{next_fine}
use Rattle.session_order.specs.Calls.{calls_by, next_by, next_of, all_over, is_none}
use Rattle.session_order.specs.Ends.{Ends, Setup, Stops}
use Rattle.vt_journal.specs.Room.{IsWithin, full_at, has_room}
use Rattle.session_order.specs.Follows.{Follows, IsNextCall, is_waiting}
use Rattle.session_order.specs.Laws.{SerialIsRight, FinishedStays, SerialIsOne}
use Rattle.session_order.specs.Serial.{Played, call_now, calls, entry_at, is_finished, nothing_played, round, rounds, tail_of, turn, turns}
use Rattle.session_text.specs.Programs.{program_of}
use Rattle.session_text.specs.declared.program.Program.{Program}
use Rattle.vt_base.specs.Limits.{callers as every_caller}
use Rattle.vt_events.specs.Charge.{charge_of}
use Rattle.vt_events.specs.Plain.{plain_event}
use Rattle.vt_events.specs.declared.entry.Entry.{Entry}
use Rattle.vt_events.specs.declared.event.Event.{Event}
use Rattle.vt_journal.specs.declared.full.Full.{Full}
use Rattle.vt_world.specs.History.{IsLegal, IsNext, replay}
use Rattle.session_order.proofs.Steps.{answers}
use Rattle.std.proofs.lemmas.List.FromFn.{get_or-range_with_len, length-range_with_len}
use Rattle.std.proofs.lemmas.List.Folds.{list_all_at}

-- a program's next call has no spare room
next_plain : (program : Option Program) (made : List _) (e : Event) → next_of program made ≡ Some e
    → plain_event e ≡ e
next_plain None made e is = absurd (none-some e is)
next_plain (Some program) made e is = (next_fine program).plain made e is

pub event_plain : (programs : List Program) (p : ℕ) (history : List Entry) (e : Event)
    → next_by programs p history ≡ Some e → plain_event e ≡ e
event_plain programs p history e is =
    next_plain (program_of programs p) (calls_by p history) e is

-- each element is directly after those before it
abbrev pub EachIs : (List Entry → Entry → Type 0) → List Entry → Type 0
EachIs P entries =
    (k : ℕ) (entry : Entry) → slice_get entries k ≡ Some entry → P (take k entries) entry

pub each_more : (P : List Entry → Entry → Type 0) (entries : List Entry) (entry : Entry)
    → EachIs P entries → P entries entry → EachIs P (entries ++ entry ∷ [])
each_more P [] entry old next zero found is = subst (P []) (same_Some entry found is) next
each_more P [] entry old next (suc k) found is = absurd (none-some found is)
each_more P (first ∷ entries) entry old next zero found is = old 0 found is
each_more P (first ∷ entries) entry old next (suc k) found is =
    each_more (λ before. P (first ∷ before)) entries entry (λ j. old (suc j)) next k found is

pub each_none : (P : List Entry → Entry → Type 0) → EachIs P []
each_none P k entry is = absurd (none-some entry is)

-- the result of the turn of p on a history
pub data TurnDoes (o : Setup) (p : ℕ) (h : List Entry) : Played → Type 0 where
  Skips : call_now o h p ≡ None → TurnDoes o p h (record { history = h; stop = None })
  Enters : (e : Event) → is_waiting (replay o.start h) p ≡ false → next_by o.programs p h ≡ Some e → has_room o.limits h (charge_of e) ≡ true → TurnDoes o p h (record { history = h ++ entry_at o.start h p e ∷ []; stop = None })
  FindsFull : (e : Event) → is_waiting (replay o.start h) p ≡ false → next_by o.programs p h ≡ Some e → has_room o.limits h (charge_of e) ≡ false → TurnDoes o p h (record { history = h; stop = Some (full_at h (charge_of e)) })

-- a call that p can make is its next one, and it doesn't wait
pub now_is : (waits : Bool) (next : Option Event) (e : Event)
    → (if waits then None else next) ≡ Some e → (waits ≡ false) × (next ≡ Some e)
now_is true next e is = absurd (none-some e is)
now_is false next e is = (refl, is)

room_does : (o : Setup) (p : ℕ) (h : List Entry) (e : Event) → call_now o h p ≡ Some e
    → TurnDoes o p h (calls o p (Some e) h)
room_does o p h e is =
    let now : (is_waiting (replay o.start h) p ≡ false) × (next_by o.programs p h ≡ Some e) =
    now_is (is_waiting (replay o.start h) p) (next_by o.programs p h) e is in
    let enters : Played = record { history = h ++ entry_at o.start h p e ∷ []; stop = None } in
    let stops : Played = record { history = h; stop = Some (full_at h (charge_of e)) } in
    ⊎_elim
    (λ room. subst (TurnDoes o p h) (sym (ap (λ b. if b then enters else stops) room))
    (Enters e now.0 now.1 room))
    (λ none. subst (TurnDoes o p h) (sym (ap (λ b. if b then enters else stops) none))
    (FindsFull e now.0 now.1 none))
    (cases_Bool (has_room o.limits h (charge_of e)))

now_does : (o : Setup) (p : ℕ) (h : List Entry) (now : Option Event) → call_now o h p ≡ now
    → TurnDoes o p h (calls o p now h)
now_does o p h None is = Skips is
now_does o p h (Some e) is = room_does o p h e is

pub turn_does : (o : Setup) (p : ℕ) (h : List Entry)
    → TurnDoes o p h (turn o p (record { history = h; stop = None }))
turn_does o p h = now_does o p h (call_now o h p) refl

-- a play on its way
pub record Goes (o : Setup) (t : Played) : Type 0 where
  pub legal : IsLegal o.start t.history
  pub follows : Follows o.start o.programs t.history
  pub within : IsWithin o.limits t.history
  pub stops : (full : Full) → t.stop ≡ Some full → Stops o t.history full

pub goes_nothing : (o : Setup) → Goes o nothing_played
goes_nothing o = record {
  legal = each_none (IsNext o.start);
  follows = each_none (IsNextCall o.start o.programs);
  within = record { events = omega arith; bytes = omega arith };
  stops = λ full is. absurd (none-some full is);
}

within_more : (o : Setup) (h : List Entry) (entry : Entry)
    → has_room o.limits h (charge_of entry.event) ≡ true → IsWithin o.limits (h ++ entry ∷ [])
within_more o h entry room =
    let longer = length-append h (entry ∷ []) in
    let sum = sum_by-append (λ (x : Entry). charge_of x.event) h (entry ∷ []) in
    grind (arith, nat_tests)

goes_turn : (o : Setup) (p : ℕ) (h : List Entry) (t : Played) → TurnDoes o p h t
    → Goes o (record { history = h; stop = None }) → Goes o t
goes_turn o p h _ (Skips none) goes = goes
goes_turn o p h _ (Enters e shut next room) goes =
    let entry : Entry = entry_at o.start h p e in
    let is_next : IsNext o.start h entry = record {
      answer = (answers (replay o.start h) p e).plain;
      number = refl;
    } in
    let is_call : IsNextCall o.start o.programs h entry = record {
      next = next ∙ ap Some (sym (event_plain o.programs p h e next));
      ended = λ waitend. shut;
    } in
    record {
      legal = each_more (IsNext o.start) h entry goes.legal is_next;
      follows = each_more (IsNextCall o.start o.programs) h entry goes.follows is_call;
      within = within_more o h entry room;
      stops = λ full is. absurd (none-some full is);
    }
goes_turn o p h _ (FindsFull e shut next none) goes = record {
  legal = goes.legal;
  follows = goes.follows;
  within = goes.within;
  stops = λ full is. record {
    caller = p;
    call = e;
    next = next;
    goes = shut;
    no_room = none;
    numbers = sym (same_Some (full_at h (charge_of e)) full is);
  };
}

pub turn_goes : (o : Setup) (p : ℕ) (h : List Entry) (stop : Option Full)
    → Goes o (record { history = h; stop = stop }) → Goes o (turn o p (record { history = h; stop = stop }))
turn_goes o p h (Some full) goes = goes
turn_goes o p h None goes = goes_turn o p h _ (turn_does o p h) goes

pub turns_go : (o : Setup) (callers : List ℕ) (t : Played) → Goes o t → Goes o (turns o callers t)
turns_go o [] t goes = goes
turns_go o (p ∷ callers) t goes = turns_go o callers (turn o p t) (turn_goes o p t.history t.stop goes)

pub rounds_go : (o : Setup) (n : ℕ) (t : Played) → Goes o t → Goes o (rounds o n t)
rounds_go o zero t goes = goes
rounds_go o (suc n) t goes =
    rounds_go o n (round o t) (turns_go o (range_with_len 0 every_caller) t goes)

-- a play that is finished ends
ends : (o : Setup) (h : List Entry) (stop : Option Full)
    → Goes o (record { history = h; stop = stop })
    → is_finished o (record { history = h; stop = stop }) ≡ true
    → Ends o h (tail_of (record { history = h; stop = stop }))
ends o h None goes over =
    record { within = goes.within; rightly = record { over = over; entries = refl; charge = refl } }
ends o h (Some full) goes over =
    record { within = goes.within; rightly = goes.stops full refl }

pub serial_right : SerialIsRight
serial_right o first t serial =
    let goes : Goes o t =
    subst (Goes o) (sym serial.played)
    (rounds_go o serial.count (turns o first nothing_played)
    (turns_go o first nothing_played (goes_nothing o))) in
    record {
      legal = goes.legal;
      follows = goes.follows;
      ends = ends o t.history t.stop goes serial.finished;
    }

pub is_none_none : (o : Option Event) → is_none o ≡ true → o ≡ None
is_none_none None is = refl
is_none_none (Some e) is = absurd (both_ways false refl is)

-- if every program is over, no caller has a next call
pub none_next : (programs : List Program) (history : List Entry) (p : ℕ) → p < every_caller
    → all_over programs history ≡ true → next_by programs p history ≡ None
none_next programs history p within over =
    let n : ℕ = every_caller in
    let test : ℕ → Bool = λ q. is_none (next_by programs q history) in
    ⊎_elim
    (λ is. is_none_none (next_by programs p history) is)
    (λ isnt.
    let here : get_or (range_with_len 0 n) p 0 ≡ p =
    get_or-range_with_len 0 n p 0 within ∙ omega arith in
    let inside : p < length (range_with_len 0 n) =
    omega (arith, within, length-range_with_len 0 n) in
    absurd (both_ways (all_over programs history)
    (list_all_at test (range_with_len 0 n) p 0 inside (ap test here ∙ isnt)) over))
    (cases_Bool (test p))

-- a caller without a next call is skipped
pub skipped : (o : Setup) (p : ℕ) (history : List Entry) → next_by o.programs p history ≡ None
    → calls o p (call_now o history p) history ≡ record { history = history; stop = None }
skipped o p history none =
    let waits : Bool = is_waiting (replay o.start history) p in
    let now : call_now o history p ≡ None =
    ap (λ e. cond waits None e) none
    ∙ elim waits as (λ b. ◌≡◌ {A = Option Event} (cond b None None) None) [ true ↦ refl | false ↦ refl ] in
    ap (λ e. calls o p e history) now

pub turn_stays : (o : Setup) (p : ℕ) (history : List Entry) (stop : Option Full) → p < every_caller
    → is_finished o (record { history = history; stop = stop }) ≡ true
    → turn o p (record { history = history; stop = stop })
    ≡ record { history = history; stop = stop }
turn_stays o p history (Some full) within over = refl
turn_stays o p history None within over =
    skipped o p history (none_next o.programs history p within over)

pub turns_stay : (o : Setup) (p n : ℕ) (t : Played) → p + n ≤ every_caller → is_finished o t ≡ true
    → turns o (range_with_len p n) t ≡ t
turns_stay o p zero t within over = refl
turns_stay o p (suc n) t within over =
    ap (turns o (range_with_len (p + 1) n)) (turn_stays o p t.history t.stop (omega (arith, within)) over)
    ∙ turns_stay o (p + 1) n t (omega (arith, within)) over

pub finished_stays : FinishedStays
finished_stays o zero t over = refl
finished_stays o (suc n) t over =
    ap (rounds o n) (turns_stay o 0 every_caller t (omega arith) over)
    ∙ finished_stays o n t over

-- rounds and more rounds
pub rounds_more : (o : Setup) (m n : ℕ) (t : Played)
    → rounds o (m + n) t ≡ rounds o n (rounds o m t)
rounds_more o zero n t = ap (λ k. rounds o k t) (let e : 0 + n ≡ n = omega arith in e)
rounds_more o (suc m) n t =
    ap (λ k. rounds o k t) (let e : suc m + n ≡ suc (m + n) = omega arith in e)
    ∙ rounds_more o m n (round o t)

-- the same rounds in two counts
same : (o : Setup) (m k : ℕ) (t : Played) → is_finished o (rounds o m t) ≡ true
    → rounds o (m + k) t ≡ rounds o m t
same o m k t over = rounds_more o m k t ∙ finished_stays o k (rounds o m t) over

pub serial_one : SerialIsOne
serial_one o first a b sa sb =
    let t : Played = turns o first nothing_played in
    let over_a : is_finished o (rounds o sa.count t) ≡ true =
    subst (λ x. is_finished o x ≡ true) sa.played sa.finished in
    let over_b : is_finished o (rounds o sb.count t) ≡ true =
    subst (λ x. is_finished o x ≡ true) sb.played sb.finished in
    let meets : rounds o (sa.count + sb.count) t ≡ rounds o (sb.count + sa.count) t =
    ap (λ k. rounds o k t) (let e : sa.count + sb.count ≡ sb.count + sa.count = omega arith in e) in
    sa.played
    ∙ sym (same o sa.count sb.count t over_a)
    ∙ meets
    ∙ same o sb.count sa.count t over_b
    ∙ sym sb.played
