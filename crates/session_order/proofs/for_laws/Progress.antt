-- A play from a start goes on until it is finished.
use Rattle.std.proofs.Common.{◌≡◌, ◌⊎◌, ℕ, ◌+◌, ◌-◌, ◌<◌, ◌≤◌, zero, suc, Bool, true, false, ⊎_elim, inl, inr, arith, List, [], ◌∷◌, ◌++◌, length, get_or, map, Option, Some, None, refl, sym, ap, ◌∙◌, subst, length-append}
use Rattle.std.proofs.lemmas.Bool.{and_cases, and_parts, both_ways, cases_Bool, cases_lt, eqb-false, eqb-true, false_from_ne_true, false≢true, lt-ltb, not-true, or_cases, or_left, true≢false}
use Rattle.std.proofs.lemmas.List.{get_or_past}
use Rattle.std.proofs.lemmas.List.FromFn.{get_or-map-range_with_len, length-map-range_with_len}
use Rattle.std.proofs.lemmas.Option.{none-some, slice_get_within}
use Rattle.std.specs.List.{list_all, list_any, range_with_len}
use Rattle.std.specs.Prelude.{◌==◌, nat_lt, not, is_some, slice_get, if◌then◌else◌}
use Rattle.vt_world.proofs.for_laws.Ages.{holds}
use Rattle.session_order.proofs.for_laws.Lively.{IsLively, Now, lively_more}
use Rattle.session_order.proofs.Programs.{next_alive}
use Rattle.session_order.proofs.Turns.{Enters, FindsFull, Goes, Skips, TurnDoes, event_plain, finished_stays, goes_nothing, is_none_none, turn_does, turns_go}
use Rattle.session_order.specs.Calls.{all_over, is_none, next_by, next_of}
use Rattle.session_order.specs.Ends.{Setup}
use Rattle.session_order.specs.Follows.{is_waiting}
use Rattle.session_order.specs.Laws.{IsFromStart, RoundsGoOn, SerialEnds}
use Rattle.session_order.specs.Serial.{Played, call_now, entry_at, is_finished, nothing_played, round, rounds, turn, turns}
use Rattle.session_text.proofs.WhosePrograms.{some_first, some_keyboard, some_process}
use Rattle.session_text.specs.Programs.{call, next, program_of}
use Rattle.session_text.specs.Sessions.{ArePrograms}
use Rattle.session_text.specs.declared.program.Program.{Program}
use Rattle.vt_base.specs.Limits.{callers as every_caller}
use Rattle.vt_events.specs.declared.entry.Entry.{Entry}
use Rattle.vt_events.specs.declared.event.Event.{Event}
use Rattle.vt_journal.specs.declared.full.Full.{Full}
use Rattle.vt_procs.specs.Callers.{Callers, caller_at, caller_of, callers_of, is_live, keyboard, no_caller, caller_at_start}
use Rattle.vt_procs.specs.Tickets.{can_go, is_open}
use Rattle.vt_procs.specs.declared.proc_start.ProcStart.{ProcStart}
use Rattle.vt_procs.specs.declared.process.Process.{Process}
use Rattle.vt_procs.specs.declared.waiting.Waiting.TheVariants.{Nothing}
use Rattle.vt_world.specs.History.{replay}
use Rattle.vt_world.specs.State.{WorldState}
use Rattle.vt_world.specs.Step.{step}
use Rattle.session_order.proofs.Steps.{answers}

-- a caller at the start has no ticket, and if it lives, it has a number of a caller and a program
record Begins (programs : List Program) (q : ℕ) (a : Process) : Type 0 where
  free : a.waiting ≡ Nothing
  known : a.live ≡ true → (q < every_caller) × (is_some (program_of programs q) ≡ true)

begins_by : (keyboards : ℕ) (starts : List ProcStart) (programs : List Program) (q : ℕ)
    (first further : Bool) (start : Option ProcStart) → ArePrograms (length starts) keyboards programs
    → q < every_caller → (q == 0) ≡ first → nat_lt 64 q ≡ further → slice_get starts (q - 1) ≡ start
    → Begins programs q (if first then keyboard keyboards 0 else if further then keyboard keyboards (q - 64) else caller_of start)
begins_by keyboards starts programs q true further start are within first high here = record {
  free = refl;
  known = λ live.
      (within, ap (λ p. is_some (program_of programs p)) (eqb-true q 0 first) ∙ some_first (length starts) keyboards programs are);
}
begins_by keyboards starts programs q false true start are within first high here = record {
  free = refl;
  known = λ live. (within, some_keyboard (length starts) keyboards programs are q high ∙ live);
}
begins_by keyboards starts programs q false false None are within first low here =
    record { free = refl; known = λ live. absurd (false≢true live) }
begins_by keyboards starts programs q false false (Some start) are within first low here = record {
  free = refl;
  known = λ live.
      (within, some_process (length starts) keyboards programs are q (eqb-false q 0 first) low ∙ lt-ltb (q - 1) (length starts) (slice_get_within starts (q - 1) start here));
}

begins : (keyboards : ℕ) (starts : List ProcStart) (programs : List Program) (q : ℕ)
    → ArePrograms (length starts) keyboards programs
    → Begins programs q (caller_at (callers_of keyboards starts) q)
begins keyboards starts programs q are =
    let at : ℕ → Process = caller_at_start keyboards starts in
    ⊎_elim
    (λ within. subst (Begins programs q) (sym (get_or-map-range_with_len at 0 68 q q no_caller within (omega arith)))
    (begins_by keyboards starts programs q (q == 0) (nat_lt 64 q) (slice_get starts (q - 1)) are within refl refl refl))
    (λ past. subst (Begins programs q)
    (sym (get_or_past (map at (range_with_len 0 68)) q no_caller (omega (arith, past, length-map-range_with_len at 0 68))))
    (record { free = refl; known = λ live. absurd (false≢true live) }))
    (cases_lt q 68)

-- a program has a first call
has_next : (program : Option Program) → (next_of program [] ≡ None) → program ≡ None
has_next None none = refl
has_next (Some program) none = absurd ((next_alive program).starts none)

pub lively_start : (programs : List Program) (keyboards : ℕ) (starts : List ProcStart)
    → ArePrograms (length starts) keyboards programs → IsLively programs [] (callers_of keyboards starts)
lively_start programs keyboards starts are =
    let c : Callers = callers_of keyboards starts in
    let at : (q : ℕ) → Begins programs q (caller_at c q) = λ q. begins keyboards starts programs q are in
    let none_holds : (q : ℕ) → holds (caller_at c q).waiting ≡ true → ⊥ =
    λ q held. both_ways (holds (caller_at c q).waiting) (ap holds (at q).free) held in
    record {
      sound = λ q held. absurd (none_holds q held);
      awake = inr (λ q. ap is_open (at q).free);
      known = λ q live. ((at q).known live).0;
      over = λ q none. false_from_ne_true (is_live c q)
          (λ live.
          both_ways (is_some (program_of programs q)) (ap is_some (has_next (program_of programs q) none))
          ((at q).known live).1);
      waits = λ q held. absurd (none_holds q held);
      walked = λ q program is. tt;
    }

pub replay_more : (start : WorldState) (h : List Entry) (entry : Entry)
    → replay start (h ++ entry ∷ []) ≡ (step (replay start h) entry.caller entry.event).world
replay_more start [] entry = refl
replay_more start (first ∷ h) entry =
    replay_more (step start first.caller first.event).world h entry

-- the callers after a play
abbrev pub Lives : Setup → List Entry → Type 0
Lives o h = IsLively o.programs h (replay o.start h).callers

lives_turn : (o : Setup) (p : ℕ) (h : List Entry) (t : Played) → TurnDoes o p h t → Lives o h
    → Lives o t.history
lives_turn o p h _ (Skips none) lives = lives
lives_turn o p h _ (Enters e shut next room) lives =
    let w : WorldState = replay o.start h in
    let entry : Entry = entry_at o.start h p e in
    let now : Now o.programs h w p e = record { next = next; shut = shut } in
    subst (λ (x : WorldState). IsLively o.programs (h ++ entry ∷ []) x.callers) (sym (replay_more o.start h entry))
    (lively_more o.programs h w p e entry lives now refl
    (λ i. call (event_plain o.programs p h e next i) ((answers w p e).plain i)))
lives_turn o p h _ (FindsFull e shut next none) lives = lives

turn_lives : (o : Setup) (p : ℕ) (h : List Entry) (stop : Option Full) → Lives o h
    → Lives o (turn o p (record { history = h; stop = stop })).history
turn_lives o p h (Some full) lives = lives
turn_lives o p h None lives = lives_turn o p h _ (turn_does o p h) lives

turns_live : (o : Setup) (callers : List ℕ) (t : Played) → Lives o t.history
    → Lives o (turns o callers t).history
turns_live o [] t lives = lives
turns_live o (p ∷ callers) t lives =
    turns_live o callers (turn o p t) (turn_lives o p t.history t.stop lives)

-- a play on its way from a start
pub record OnWay (o : Setup) (t : Played) : Type 0 where
  pub goes : Goes o t
  pub lives : Lives o t.history

round_goes_on : (o : Setup) (t : Played) → OnWay o t → OnWay o (round o t)
round_goes_on o t way = record {
  goes = turns_go o (range_with_len 0 every_caller) t way.goes;
  lives = turns_live o (range_with_len 0 every_caller) t way.lives;
}

rounds_go_on : (o : Setup) (n : ℕ) (t : Played) → OnWay o t → OnWay o (rounds o n t)
rounds_go_on o zero t way = way
rounds_go_on o (suc n) t way = rounds_go_on o n (round o t) (round_goes_on o t way)

first_goes_on : (o : Setup) (first : List ℕ) → IsFromStart o → OnWay o (turns o first nothing_played)
first_goes_on o first is = record {
  goes = turns_go o first nothing_played (goes_nothing o);
  lives = turns_live o first nothing_played
      (subst (λ (w : WorldState). IsLively o.programs [] w.callers) (sym is.start)
      (lively_start o.programs is.keyboards is.processes is.programs));
}

-- a test that fails somewhere in a range
fails_at : (test : ℕ → Bool) (a n : ℕ) → list_all test (range_with_len a n) ≡ false
    → (x : ℕ) × (x < a + n) × (test x ≡ false)
fails_at test a zero none = absurd (true≢false none)
fails_at test a (suc n) none = ⊎_elim
    (λ here. (a, omega arith, here))
    (λ later.
    let found : (x : ℕ) × (x < a + 1 + n) × (test x ≡ false) = fails_at test (a + 1) n later in
    (found.0, omega (arith, found.1), found.2))
    (and_cases (test a) (list_all test (range_with_len (a + 1) n)) none)

passes_at : (test : Process → Bool) (list : List Process) → list_any test list ≡ true
    → (k : ℕ) × (test (get_or list k no_caller) ≡ true)
passes_at test [] none = absurd (false≢true none)
passes_at test (x ∷ list) some = ⊎_elim
    (λ here. (0, here))
    (λ later. let found : (k : ℕ) × (test (get_or list k no_caller) ≡ true) = passes_at test list later in (suc found.0, found.1))
    (or_cases (test x) (list_any test list) some)

some_next : (next : Option Event) → is_none next ≡ false → (e : Event) × (next ≡ Some e)
some_next None some = absurd (true≢false some)
some_next (Some e) some = (e, refl)

-- each live caller has a next call
living_next : (programs : List Program) (h : List Entry) (c : Callers) (q : ℕ) → IsLively programs h c
    → is_live c q ≡ true → is_none (next_by programs q h) ≡ false
living_next programs h c q lively live =
    false_from_ne_true (is_none (next_by programs q h))
    (λ none. both_ways (is_live c q) (lively.over q (is_none_none (next_by programs q h) none)) live)

-- a caller that can make a call now
pub record CanCall (o : Setup) (h : List Entry) : Type 0 where
  pub caller : ℕ
  pub known : caller < every_caller
  pub call : Event
  pub now : call_now o h caller ≡ Some call

can_call : (o : Setup) (h : List Entry) (q : ℕ) (e : Event) → q < every_caller
    → next_by o.programs q h ≡ Some e → is_waiting (replay o.start h) q ≡ false → CanCall o h
can_call o h q e known next shut = record {
  caller = q;
  known = known;
  call = e;
  now = ap (λ b. if b then None else next_by o.programs q h) shut ∙ next;
}

somebody : (o : Setup) (h : List Entry) → Lives o h → all_over o.programs h ≡ false → CanCall o h
somebody o h lives going =
    let w : WorldState = replay o.start h in
    let open_one : (p : ℕ) × (p < every_caller) × (is_none (next_by o.programs p h) ≡ false) =
    fails_at (λ p. is_none (next_by o.programs p h)) 0 every_caller going in
    let p : ℕ = open_one.0 in
    let his : (e : Event) × (next_by o.programs p h ≡ Some e) = some_next (next_by o.programs p h) open_one.2 in
    ⊎_elim
    (λ waits. ⊎_elim
    (λ some.
    let other : (k : ℕ) × (can_go (caller_at w.callers k) ≡ true) = passes_at can_go w.callers.list some in
    let q : ℕ = other.0 in
    let parts : (is_live w.callers q ≡ true) × (not (is_waiting w q) ≡ true) =
    and_parts (is_live w.callers q) (not (is_waiting w q)) other.1 in
    let call : (e : Event) × (next_by o.programs q h ≡ Some e) =
    some_next (next_by o.programs q h) (living_next o.programs h w.callers q lives parts.0) in
    can_call o h q call.0 (lives.known q parts.0) call.1 (not-true (is_waiting w q) parts.1))
    (λ nobody. absurd (both_ways (is_waiting w p) (nobody p) waits))
    lives.awake)
    (λ shut. can_call o h p his.0 open_one.1 his.1 shut)
    (cases_Bool (is_waiting w p))

-- the play has an entry more than h, or it stops
abbrev pub Moved : List Entry → Played → Type 0
Moved h t = (length h < length t.history) ⊎ (is_some t.stop ≡ true)

moved_on : (o : Setup) (p : ℕ) (h g : List Entry) (t : Played) → TurnDoes o p g t
    → (length h < length g) ⊎ ⊥ → Moved h t
moved_on o p h g _ (Skips none) longer = ⊎_elim (λ more. inl more) (λ no. absurd no) longer
moved_on o p h g _ (Enters e shut next room) longer = ⊎_elim
    (λ more. inl (omega (arith, more, length-append g (entry_at o.start g p e ∷ []))))
    (λ no. absurd no) longer
moved_on o p h g _ (FindsFull e shut next none) longer = inr refl

turn_moved : (o : Setup) (p : ℕ) (h g : List Entry) (stop : Option Full)
    → Moved h (record { history = g; stop = stop })
    → Moved h (turn o p (record { history = g; stop = stop }))
turn_moved o p h g (Some full) moved = moved
turn_moved o p h g None moved =
    moved_on o p h g _ (turn_does o p g)
    (⊎_elim (λ more. inl more) (λ no. absurd (false≢true no)) moved)

turns_moved : (o : Setup) (callers : List ℕ) (h : List Entry) (t : Played) → Moved h t
    → Moved h (turns o callers t)
turns_moved o [] h t moved = moved
turns_moved o (p ∷ callers) h t moved =
    turns_moved o callers h (turn o p t) (turn_moved o p h t.history t.stop moved)

-- the turn of p moves the play, or p has no call
moves_or : (o : Setup) (p : ℕ) (h : List Entry) (t : Played) → TurnDoes o p h t
    → Moved h t ⊎ ((call_now o h p ≡ None) × (t ≡ record { history = h; stop = None }))
moves_or o p h _ (Skips none) = inr (none, refl)
moves_or o p h _ (Enters e shut next room) =
    inl (inl (omega (arith, length-append h (entry_at o.start h p e ∷ []))))
moves_or o p h _ (FindsFull e shut next none) = inl (inr refl)

above : (a q : ℕ) → a ≤ q → (a ≡ q → ⊥) → a + 1 ≤ q
above a q low apart = omega (arith, low, apart)

within : (a n q : ℕ) → q < a + suc n → q < a + 1 + n
within a n q high = omega (arith, high)

-- a play that makes no entry
abbrev still : List Entry → Played
still h = record { history = h; stop = None }

-- a turn of a, and those of others, of whom q has a call
turn_then : (o : Setup) (h : List Entry) (q : ℕ) (e : Event) (callers : List ℕ) (a : ℕ) (t : Played)
    → call_now o h q ≡ Some e → Moved h t ⊎ ((call_now o h a ≡ None) × (t ≡ still h))
    → ((a ≡ q → ⊥) → Moved h (turns o callers (still h))) → Moved h (turns o callers t)
turn_then o h q e callers a t now (inl moved) others = turns_moved o callers h t moved
turn_then o h q e callers a t now (inr skips) others =
    let apart : a ≡ q → ⊥ =
    λ same. none-some e (sym (subst (λ k. call_now o h k ≡ None) same skips.0) ∙ now) in
    subst (λ x. Moved h (turns o callers x)) (sym skips.1) (others apart)

-- a round in which some caller has a call moves the play
range_moves : (o : Setup) (h : List Entry) (q : ℕ) (e : Event) → call_now o h q ≡ Some e
    → (a n : ℕ) → a ≤ q → q < a + n → Moved h (turns o (range_with_len a n) (still h))
range_moves o h q e now a zero low high = absurd (let no : ⊥ = omega (arith, low, high) in no)
range_moves o h q e now a (suc n) low high =
    turn_then o h q e (range_with_len (a + 1) n) a (turn o a (still h)) now
    (moves_or o a h (turn o a (still h)) (turn_does o a h))
    (λ apart. range_moves o h q e now (a + 1) n (above a q low apart) (within a n q high))

round_moves : (o : Setup) (h : List Entry) (stop : Option Full) → Lives o h
    → is_finished o (record { history = h; stop = stop }) ≡ false
    → Moved h (round o (record { history = h; stop = stop }))
round_moves o h (Some full) lives going = absurd (true≢false going)
round_moves o h None lives going =
    let can : CanCall o h = somebody o h lives going in
    range_moves o h can.caller can.call can.now 0 every_caller (omega arith)
    (omega (arith, can.known))

pub rounds-go-on : RoundsGoOn
rounds-go-on o first n is going =
    let t : Played = rounds o n (turns o first nothing_played) in
    let way : OnWay o t = rounds_go_on o n (turns o first nothing_played) (first_goes_on o first is) in
    round_moves o t.history t.stop way.lives going

-- after n rounds a play is finished, or has n entries more
enough : (o : Setup) (n : ℕ) (t : Played) → OnWay o t
    → (is_finished o (rounds o n t) ≡ true) ⊎ (length t.history + n ≤ length (rounds o n t).history)
enough o zero t way = inr (omega arith)
enough o (suc n) t way =
    let done : (u : Played) → is_finished o u ≡ true → is_finished o (rounds o n u) ≡ true =
    λ u over. subst (λ x. is_finished o x ≡ true) (sym (finished_stays o n u over)) over in
    ⊎_elim
    (λ over. inl (subst (λ x. is_finished o x ≡ true) (sym (finished_stays o (suc n) t over)) over))
    (λ going. ⊎_elim
    (λ longer. ⊎_elim
    (λ over. inl over)
    (λ many. inr (omega (arith, longer, many)))
    (enough o n (round o t) (round_goes_on o t way)))
    (λ stopped. inl (done (round o t) (or_left (is_some (round o t).stop) (all_over o.programs (round o t).history) stopped)))
    (round_moves o t.history t.stop way.lives going))
    (cases_Bool (is_finished o t))

pub serial_ends : SerialEnds
serial_ends o first is =
    let t : Played = turns o first nothing_played in
    let way : OnWay o t = first_goes_on o first is in
    let n : ℕ = o.limits.events + 1 in
    let end : OnWay o (rounds o n t) = rounds_go_on o n t way in
    record {
      count = n;
      played = refl;
      finished = ⊎_elim
          (λ over. over)
          (λ many. absurd (let no : ⊥ = omega (arith, many, end.goes.within.events) in no))
          (enough o n t way);
    }
