-- The calls that are left after a walk through a program.
use Rattle.std.proofs.Common.{◌≡◌, ℕ, Bool, true, false, List, [], ◌∷◌, ◌++◌, Option, Some, None, drop, cond, lit≤, Result, Ok, Err, IfOk, true≢false, refl, sym, ap, subst, ◌∙◌, ◌+◌}
use Rattle.std.proofs.lemmas.List.{append-nil, append_assoc}
use Rattle.vt_base.specs.Bytes.{Text}
use Rattle.vt_base.specs.declared.no_memory.NoMemory.{NoMemory}
use Rattle.vt_events.specs.declared.event.Event.{Event}
use Rattle.vt_events.specs.declared.reply.Reply.{Reply}
use Rattle.sig_hooks.specs.declared.act.Act.{Act}
use Rattle.vt_events.specs.Plain.{plain_event}
use Rattle.session_text.specs.Items.{Listed}
use Rattle.session_text.specs.Programs.{Call, all_calls, call, calls, calls_from, ends, is_gone, next, nothing, scans, script, takes}
use Rattle.vt_events.specs.Waits.{is_wait}
use Rattle.session_text.specs.Walks.{Advances, Moves, Place, Stands, ahead, rest_of_calls}
use Rattle.session_text.proofs.Acts.{calls_from_end}
use Rattle.session_text.specs.declared.program.Program.{Program}
use Rattle.vt_events.specs.declared.event.Event.TheVariants as event
use Rattle.session_text.specs.declared.program.Program.TheVariants as program

pub stands_next : (p : Program) (w : Place) (made : List Call) → Stands p w made
    → next p made ≡ rest_of_calls p w []
stands_next p w made s = ap (next p) (sym (append-nil made)) ∙ s.same []

pub stands_over : (p : Program) (w : Place) (made : List Call) → Stands p w made
    → w.over ≡ true → None ≡ next p made
stands_over p w made s over =
    sym
    (stands_next p w made s
    ∙ ap
    (λ (b : Bool). cond b nothing (cond w.waiting (calls event.WaitEnd (ahead p w)) (ahead p w)) [])
    over)

pub stands_waiting : (p : Program) (w : Place) (made : List Call) → Stands p w made
    → w.over ≡ false → w.waiting ≡ true → Some event.WaitEnd ≡ next p made
stands_waiting p w made s over waiting =
    sym
    (stands_next p w made s
    ∙ (λ i. cond (over i) nothing (cond (waiting i) (calls event.WaitEnd (ahead p w)) (ahead p w)) []))

pub stands_ahead : (p : Program) (w : Place) (made : List Call) → Stands p w made
    → w.over ≡ false → w.waiting ≡ false → ahead p w [] ≡ next p made
stands_ahead p w made s over waiting =
    sym
    (stands_next p w made s
    ∙ (λ i. cond (over i) nothing (cond (waiting i) (calls event.WaitEnd (ahead p w)) (ahead p w)) []))

-- a walk that moves stands for one call more
pub moves_stands : (p : Program) (w moved : Place) (r : Reply) (made : List Call) (e : Event)
    → Moves (rest_of_calls p w) p r moved → Stands p w made → next p made ≡ Some e
    → Stands p moved (made ++ call e r ∷ [])
moves_stands p w moved r made e m s is = record {
  same = λ more.
      ap (next p) (append_assoc made (call e r ∷ []) more)
      ∙ s.same (call e r ∷ more)
      ∙ m.same e more (sym (stands_next p w made s) ∙ is);
}

ends_plain : (e : Event) (r : Reply) → ends e r ≡ ends (plain_event e) r
ends_plain event.Exit r = refl
ends_plain e r = refl

turn : (e : Event) (r : Reply) (more : List Call) (behind after : List Call → Option Event) (over waiting : Bool)
    → over ≡ ends e r → waiting ≡ is_wait r → (over ≡ false → behind ≡ after)
    → calls e behind (call e r ∷ more)
    ≡ cond over nothing (cond waiting (calls event.WaitEnd after) after) more
turn e r more behind after true waiting over_is waiting_is same =
    ap (λ b. cond b None (cond (is_wait r) (calls event.WaitEnd behind more) (behind more))) (sym over_is)
turn e r more behind after false true over_is waiting_is same =
    (λ i. cond (sym over_is i) None
    (cond (sym waiting_is i) (calls event.WaitEnd (same refl i) more) (same refl i more)))
turn e r more behind after false false over_is waiting_is same =
    (λ i. cond (sym over_is i) None
    (cond (sym waiting_is i) (calls event.WaitEnd (same refl i) more) (same refl i more)))

-- a walk moves if the calls that are left are one call and those after it
moves_by : (left : List Call → Option Event) (p : Program) (moved : Place) (r : Reply) (e : Event)
    (behind : List Call → Option Event) → left ≡ calls e behind
    → moved.over ≡ ends e r → moved.waiting ≡ is_wait r → (moved.over ≡ false → behind ≡ ahead p moved)
    → Moves left p r moved
moves_by left p moved r e behind left_is over waiting same = record {
  same = λ f more is.
      let called : e ≡ f = let first = ap (λ rest. rest []) left_is in cc in
      ap (λ rest. rest (call f r ∷ more)) left_is
      ∙ ap (λ g. calls e behind (call g r ∷ more)) (sym called)
      ∙ turn e r more behind (ahead p moved) moved.over moved.waiting over waiting same;
}

-- the calls that are left if the program isn't over and no wait has to end
left_ahead : (p : Program) (w : Place) → w.over ≡ false → w.waiting ≡ false → rest_of_calls p w ≡ ahead p w
left_ahead p w over waiting =
    (λ i. cond (over i) nothing (cond (waiting i) (calls event.WaitEnd (ahead p w)) (ahead p w)))

ahead_same : (p : Program) (w : Place) (waiting over : Bool)
    → ahead p w ≡ ahead p (record w { waiting = waiting; over = over })
ahead_same (program.Keys bytes) w waiting over = refl
ahead_same (program.Script items table) w waiting over = refl

-- the wait of the walk ended, or didn't
pub wait_moves : (p : Program) (w moved : Place) (r : Reply) → w.over ≡ false → w.waiting ≡ true
    → moved ≡ record w { waiting = is_wait r; over = is_gone r } → Moves (rest_of_calls p w) p r moved
wait_moves p w moved r over waiting is =
    let left_is : rest_of_calls p w ≡ calls event.WaitEnd (ahead p w) =
    (λ i. cond (over i) nothing (cond (waiting i) (calls event.WaitEnd (ahead p w)) (ahead p w))) in
    subst (Moves (rest_of_calls p w) p r) (sym is)
    (moves_by (rest_of_calls p w) p _ r event.WaitEnd (ahead p w) left_is refl refl
    (λ _. ahead_same p w (is_wait r) (is_gone r)))

-- a scan byte was called
pub scan_moves : (bytes : Text) (w moved : Place) (r : Reply) (b : ℕ)
    → drop w.item bytes.bytes ≡ b ∷ drop (w.item + 1) bytes.bytes
    → moved ≡ record w { item = w.item + 1; waiting = is_wait r; over = is_gone r }
    → Advances (program.Keys bytes) w r moved
scan_moves bytes w moved r b next_is is =
    subst (Advances (program.Keys bytes) w r) (sym is)
    (moves_by _ (program.Keys bytes) _ r (event.Scan b) (scans (drop (w.item + 1) bytes.bytes))
    (ap scans next_is) refl refl (λ _. refl))

-- exit was called after the last scan byte
pub scan_exit_moves : (bytes : Text) (w moved : Place) (r : Reply) → drop w.item bytes.bytes ≡ []
    → moved ≡ record w { waiting = is_wait r; over = true } → Advances (program.Keys bytes) w r moved
scan_exit_moves bytes w moved r next_is is =
    subst (Advances (program.Keys bytes) w r) (sym is)
    (moves_by _ (program.Keys bytes) _ r event.Exit nothing (ap scans next_is) refl refl
    (λ t. absurd (true≢false t)))

-- the calls that are left of a script with acts to make
script_acting : (table : List Act) (items : Listed) (w : Place) (left : List Event) → w.taking ≡ false
    → calls_from table w.given w.signal ≡ left
    → ahead (program.Script items table) w
    ≡ all_calls left (script table (drop w.item items.events))
script_acting table items w left taking is =
    (λ i. cond (taking i) (takes table) (all_calls (is i)) (script table (drop w.item items.events)))

-- an item was called
pub item_moves : (table : List Act) (items : Listed) (w moved : Place) (r : Reply) (item : Event)
    → w.taking ≡ false → calls_from table w.given w.signal ≡ []
    → drop w.item items.events ≡ item ∷ drop (w.item + 1) items.events
    → moved ≡ record w {
      item = w.item + 1;
      taking = true;
      waiting = is_wait r;
      over = ends item r;
    } → Advances (program.Script items table) w r moved
item_moves table items w moved r item taking none next_is is =
    let p : Program = program.Script items table in
    subst (Advances p w r) (sym is)
    (moves_by _ p _ r (plain_event item) (takes table (script table (drop (w.item + 1) items.events)))
    (script_acting table items w [] taking none ∙ ap (script table) next_is) (ends_plain item r) refl
    (λ _. refl))

-- at the start nothing was called, and no signal was given
pub starts : (p : Program) (given : ℕ) → given ≡ 0
    → Stands p (record {
      item = 0;
      taking = false;
      given = given;
      signal = 65;
      waiting = false;
      over = false;
    }) []
starts (program.Keys bytes) given none = record { same = λ more. refl }
starts (program.Script items table) given none = record {
  same = λ more.
      ap (λ events. all_calls events (script table items.events) more)
      (sym (calls_from_end table given 65 (lit≤ tt)));
}

-- the first call that is ahead is the next call
pub ahead_next : (p q : Program) (w : Place) (result : Result (Option Event) NoMemory)
    → w.over ≡ false → w.waiting ≡ false → p ≡ q
    → IfOk result (λ e. e ≡ ahead q w [])
    → IfOk result (λ e. (made : List Call) → Stands p w made → e ≡ next p made)
ahead_next p q w (Ok e) over waiting is e_is = λ made s.
    e_is ∙ ap (λ r. ahead r w []) (sym is) ∙ stands_ahead p w made s over waiting
ahead_next p q w (Err e) over waiting is e_is = tt

-- the walk moved along this program
pub moved_stands : (p q : Program) (w moved : Place) (r : Reply) → w.over ≡ false → w.waiting ≡ false → p ≡ q
    → Advances q w r moved → (made : List Call) (e : Event) → Stands p w made → next p made ≡ Some e
    → Stands p moved (made ++ call e r ∷ [])
moved_stands p q w moved r over waiting is m made e s next_is =
    moves_stands p w moved r made e
    (subst (λ x. Moves (rest_of_calls x w) x r moved) (sym is)
    (subst (λ left. Moves left q r moved) (sym (left_ahead q w over waiting)) m))
    s next_is
