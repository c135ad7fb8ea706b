-- The screen law of histories from a start.
use Rattle.std.proofs.Common.{◌≡◌, ◌<◌, ℕ, zero, suc, Bool, true, false, cond, List, [], ◌∷◌, length, get_or, map, set, Option, Some, None, is_some, refl, sym, ap, subst, ◌∙◌}
use Rattle.std.proofs.lemmas.List.{get_or-set_other, get_or-set_same, length-set}
use Rattle.std.specs.List.{range_with_len}
use Rattle.std.specs.Prelude.{◌==◌, option_map}
use Rattle.std.proofs.lemmas.Bool.{eqb-false, eqb-true}
use Rattle.std.proofs.lemmas.Option.{none-some, same_Some}
use Rattle.key_tables.specs.Tables.{Tables}
use Rattle.vt_base.specs.ConsoleSet.{is_among}
use Rattle.vt_events.specs.declared.entry.Entry.{Entry}
use Rattle.vt_events.specs.declared.event.Event.{Event}
use Rattle.vt_procs.specs.declared.proc_start.ProcStart.{ProcStart}
use Rattle.vt_screen.specs.Run.{after, start}
use Rattle.vt_canvas.specs.Screen.{Screen}
use Rattle.vt_screen.specs.Tape.{AnyTapeCut, StretchesRun, byte, change, with_change}
use Rattle.vt_canvas.specs.Change.{Change}
use Rattle.vt_switch.specs.Acts.{SwitchAct, Request}
use Rattle.vt_switch.specs.Display.{Display, fresh, is_allocated}
use Rattle.vt_switch.specs.Moments.{core_after, marks, raise}
use Rattle.vt_switch.specs.declared.mark.Mark as told
use Rattle.vt_units.specs.Run.{Reached}
use Rattle.vt_world.proofs.for_laws.Allocation.{start_has, step_keeps}
use Rattle.vt_world.proofs.Places.{taken_alike}
use Rattle.vt_world.proofs.for_laws.Reruns.{tape_changes, tape_writes}
use Rattle.vt_world.proofs.for_laws.Steps.{by_step}
use Rattle.vt_world.proofs.for_laws.Taping.{Tape, accepted_tape, begun, refused_tape, tape_by, tape_of_deeds, taped}
use Rattle.vt_world.specs.Deeds.{Deed, By, Asks, Own, OwnDeed, Starts, Clears, Writes, Alters, Raises, after_switch_act, apply_deeds, apply_deed, apply_own_deed, after_request}
use Rattle.vt_world.specs.Heard.{without_marks, apply_mark, apply_marks}
use Rattle.vt_world.specs.History.{replay}
use Rattle.vt_world.specs.Laws.{IsStart, ScreensAreTapes}
use Rattle.vt_world.specs.Events.{row}
use Rattle.vt_world.specs.Start.{start_world}
use Rattle.vt_world.specs.State.{WorldState, HasTerminals, core}
use Rattle.vt_world.specs.Step.{Outcome, step}
use Rattle.vt_world.specs.Tapes.{accepted_items, items_of, screen_of, tape_after, tape_from, unless_refused}
use Rattle.vt_world.specs.Terminals.{TerminalState, altered_by, emu_of, new_terminal, or_new, terminal_at, written_on}
use Rattle.vt_world.specs.Wanted.{wanted_in}

-- the laws of runs that the proof uses
record RunLaws : Type 0 where
  stretches : StretchesRun
  cuts : AnyTapeCut

-- a terminal shows a tape
abbrev Shows : ℕ → ℕ → Option TerminalState → Tape → Type 0
Shows rows cols terminal tape = emu_of terminal ≡ option_map (screen_of rows cols) tape

-- new screens have this size, console c has a place, and it shows this tape
record IsShown (rows cols c new_rows new_cols : ℕ) (terminals : List (Option TerminalState)) (tape : Tape) : Type 0 where
  rows_are : new_rows ≡ rows
  cols_are : new_cols ≡ cols
  room : c < length terminals
  shows : Shows rows cols (terminal_at terminals c) tape

abbrev ShownIn : ℕ → ℕ → ℕ → WorldState → Tape → Type 0
ShownIn rows cols c w tape = IsShown rows cols c w.rows w.cols w.terminals tape

-- the invariant that each change of a terminal and of its tape keeps
abbrev Keeps : ℕ → ℕ → (Option TerminalState → Option TerminalState) → (Tape → Tape) → Type 0
Keeps rows cols alter add =
    (terminal : Option TerminalState) (tape : Tape) → Shows rows cols terminal tape
    → Shows rows cols (alter terminal) (add tape)

starts_show : (rows cols new_rows new_cols : ℕ) → new_rows ≡ rows → new_cols ≡ cols
    → Keeps rows cols (λ terminal. Some (or_new new_rows new_cols terminal)) begun
starts_show rows cols new_rows new_cols rows_are cols_are None None shows =
    ap (λ r. emu_of (Some (new_terminal r new_cols))) rows_are
    ∙ ap (λ k. emu_of (Some (new_terminal rows k))) cols_are
starts_show rows cols new_rows new_cols rows_are cols_are None (Some tape) shows =
    absurd (none-some (screen_of rows cols tape) shows)
starts_show rows cols new_rows new_cols rows_are cols_are (Some t) None shows =
    absurd (none-some t.emu (sym shows))
starts_show rows cols new_rows new_cols rows_are cols_are (Some t) (Some tape) shows = shows

clears_show : (rows cols : ℕ) → Keeps rows cols (λ terminal. None) (λ tape. None)
clears_show rows cols terminal tape shows = refl

writes_show : RunLaws → (rows cols : ℕ) (bytes : List ℕ)
    → Keeps rows cols (option_map (written_on bytes)) (taped (map byte bytes))
writes_show laws rows cols bytes None None shows = refl
writes_show laws rows cols bytes None (Some tape) shows =
    absurd (none-some (screen_of rows cols tape) shows)
writes_show laws rows cols bytes (Some t) None shows = absurd (none-some t.emu (sym shows))
writes_show laws rows cols bytes (Some t) (Some tape) shows =
    ap (λ (m : Reached Screen). Some (after m bytes))
    (same_Some t.emu (screen_of rows cols tape) shows)
    ∙ ap (λ (m : Reached Screen). Some m)
    (tape_writes laws.stretches laws.cuts rows cols tape bytes)

alters_show : RunLaws → (rows cols : ℕ) (m : Change)
    → Keeps rows cols (option_map (altered_by m)) (taped (change m ∷ []))
alters_show laws rows cols m None None shows = refl
alters_show laws rows cols m None (Some tape) shows = absurd (none-some (screen_of rows cols tape) shows)
alters_show laws rows cols m (Some t) None shows = absurd (none-some t.emu (sym shows))
alters_show laws rows cols m (Some t) (Some tape) shows =
    ap (λ (at : Reached Screen). Some (with_change m at))
    (same_Some t.emu (screen_of rows cols tape) shows)
    ∙ ap (λ (at : Reached Screen). Some at) (tape_changes laws.cuts rows cols tape m)

-- such a change at console n, as console c sees it
abbrev changed : (Option TerminalState → Option TerminalState) → ℕ → List (Option TerminalState)
    → List (Option TerminalState)
changed alter n terminals = set terminals n (alter (terminal_at terminals n))

seen_change : (rows cols c n : ℕ) (here : Bool) (alter : Option TerminalState → Option TerminalState)
    (add : Tape → Tape) (terminals : List (Option TerminalState)) (tape : Tape)
    → (n == c) ≡ here → c < length terminals → Keeps rows cols alter add
    → Shows rows cols (terminal_at terminals c) tape
    → Shows rows cols (terminal_at (changed alter n terminals) c) (cond here (add tape) tape)
seen_change rows cols c n true alter add terminals tape is room keeps shows =
    ap (λ k. emu_of (terminal_at (changed alter k terminals) c)) (eqb-true n c is)
    ∙ ap emu_of
    (get_or-set_same terminals c (alter (terminal_at terminals c)) None room)
    ∙ keeps (terminal_at terminals c) tape shows
seen_change rows cols c n false alter add terminals tape is room keeps shows =
    ap emu_of
    (get_or-set_other terminals n c (alter (terminal_at terminals n)) None (λ e. eqb-false n c is (sym e)))
    ∙ shows

is_changed : (rows cols c n new_rows new_cols : ℕ)
    (alter : Option TerminalState → Option TerminalState) (add : Tape → Tape)
    (terminals : List (Option TerminalState)) (tape : Tape) → Keeps rows cols alter add
    → IsShown rows cols c new_rows new_cols terminals tape
    → IsShown rows cols c new_rows new_cols (changed alter n terminals)
    (cond (n == c) (add tape) tape)
is_changed rows cols c n new_rows new_cols alter add terminals tape keeps shown = record {
  rows_are = shown.rows_are;
  cols_are = shown.cols_are;
  room = subst (λ k. c < k)
      (sym (length-set terminals n (alter (terminal_at terminals n)))) shown.room;
  shows = seen_change rows cols c n (n == c) alter add terminals tape refl shown.room keeps
      shown.shows;
}

tell_shows : (rows cols c : ℕ) (w : WorldState) (tape : Tape) (marks : List told.Mark)
    → ShownIn rows cols c w tape → ShownIn rows cols c (apply_marks w marks) tape
tell_shows rows cols c w tape [] shown = shown
tell_shows rows cols c w tape (m ∷ marks) shown =
    tell_shows rows cols c (apply_mark w m) tape marks shown

acted_shows : (rows cols c : ℕ) (w : WorldState) (tape : Tape) (act : SwitchAct)
    → ShownIn rows cols c w tape → ShownIn rows cols c (after_switch_act w act) tape
acted_shows rows cols c w tape act shown =
    let display : Display = (core_after (core w) act).display in
    tell_shows rows cols c (record w { display = display }) tape (marks (core w) act) shown

requested_shows : (rows cols c : ℕ) (w : WorldState) (tape : Tape) (wanted : Option ℕ)
    → ShownIn rows cols c w tape → ShownIn rows cols c (after_request w wanted) tape
requested_shows rows cols c w tape None shown = shown
requested_shows rows cols c w tape (Some n) shown = acted_shows rows cols c w tape (Request n) shown

own_shows : RunLaws → (rows cols c : ℕ) (w : WorldState) (tape : Tape) (deed : OwnDeed)
    → ShownIn rows cols c w tape → ShownIn rows cols c (apply_own_deed w deed) (tape_by c tape deed)
own_shows laws rows cols c w tape (Starts n) shown =
    is_changed rows cols c n w.rows w.cols (λ terminal. Some (or_new w.rows w.cols terminal)) begun
    w.terminals tape (starts_show rows cols w.rows w.cols shown.rows_are shown.cols_are) shown
own_shows laws rows cols c w tape (Clears n) shown =
    is_changed rows cols c n w.rows w.cols (λ terminal. None) (λ tape. None) w.terminals tape
    (clears_show rows cols) shown
own_shows laws rows cols c w tape (Writes n bytes) shown =
    is_changed rows cols c n w.rows w.cols (option_map (written_on bytes)) (taped (map byte bytes))
    w.terminals tape (writes_show laws rows cols bytes) shown
own_shows laws rows cols c w tape (Alters n m) shown =
    is_changed rows cols c n w.rows w.cols (option_map (altered_by m)) (taped (change m ∷ []))
    w.terminals tape (alters_show laws rows cols m) shown
own_shows laws rows cols c w tape (Raises p signal) shown =
    tell_shows rows cols c w tape (raise (core w) p signal) shown
own_shows laws rows cols c w tape deed shown = shown

deeds_show : RunLaws → (rows cols c : ℕ) (w : WorldState) (tape : Tape) (deeds : List Deed)
    → ShownIn rows cols c w tape
    → ShownIn rows cols c (apply_deeds w deeds) (tape_of_deeds c tape deeds)
deeds_show laws rows cols c w tape [] shown = shown
deeds_show laws rows cols c w tape (By act ∷ deeds) shown =
    deeds_show laws rows cols c (after_switch_act w act) tape deeds (acted_shows rows cols c w tape act shown)
deeds_show laws rows cols c w tape (Asks wanted ∷ deeds) shown =
    deeds_show laws rows cols c (apply_deed w (Asks wanted)) tape deeds
    (requested_shows rows cols c w tape (wanted_in w.display wanted) shown)
deeds_show laws rows cols c w tape (Own deed ∷ deeds) shown =
    deeds_show laws rows cols c (apply_own_deed w deed) (tape_by c tape deed) deeds
    (own_shows laws rows cols c w tape deed shown)

-- there is a tape if the console is allocated
machine_there : (terminal : Option TerminalState) → is_some (emu_of terminal) ≡ is_some terminal
machine_there None = refl
machine_there (Some t) = refl

screen_there : (rows cols : ℕ) (tape : Tape)
    → is_some tape ≡ is_some (option_map (screen_of rows cols) tape)
screen_there rows cols None = refl
screen_there rows cols (Some items) = refl

tape_there : (rows cols c : ℕ) (w : WorldState) (tape : Tape) → HasTerminals w
    → ShownIn rows cols c w tape → is_some tape ≡ is_allocated w.display c
tape_there rows cols c w tape has shown =
    screen_there rows cols tape
    ∙ sym (ap (λ (m : Option (Reached Screen)). is_some m) shown.shows)
    ∙ machine_there (terminal_at w.terminals c) ∙ taken_alike w.terminals w.display.consoles c has

-- an event
abbrev Follows : ℕ → ℕ → ℕ → WorldState → ℕ → Event → Tape → Outcome → Type 0
Follows rows cols c w p e tape after =
    ShownIn rows cols c after.world
    (tape_after (is_allocated after.world.display c)
    (unless_refused after.reply (items_of w p c e)) tape)

follow : RunLaws → (rows cols c : ℕ) (w : WorldState) (p : ℕ) (e : Event) (tape : Tape)
    → HasTerminals w → ShownIn rows cols c w tape
    → HasTerminals (step w p e).world → Follows rows cols c w p e tape (step w p e)
follow laws rows cols c w p e tape has shown =
    by_step
    (λ (deeds : List Deed) (after : Outcome).
    HasTerminals after.world → Follows rows cols c w p e tape after)
    w p e
    (λ errno still.
    subst (ShownIn rows cols c w)
    (refused_tape tape (is_allocated w.display c) (tape_there rows cols c w tape has shown)) shown)
    (λ accepted still.
    let v : WorldState = without_marks w in
    let deeds : List Deed = (row v p e).deeds in
    let end : WorldState = apply_deeds v deeds in
    let new : Tape = tape_of_deeds c tape deeds in
    let shown_after : ShownIn rows cols c end new = deeds_show laws rows cols c v tape deeds shown in
    subst (ShownIn rows cols c end)
    (accepted_tape c tape v p e (is_allocated end.display c)
    (tape_there rows cols c end new still shown_after))
    shown_after)

replay_shows : RunLaws → (rows cols c : ℕ) (w : WorldState) (tape : Tape) (entries : List Entry)
    → HasTerminals w → ShownIn rows cols c w tape
    → ShownIn rows cols c (replay w entries) (tape_from c tape w entries)
replay_shows laws rows cols c w tape [] has shown = shown
replay_shows laws rows cols c w tape (entry ∷ entries) has shown =
    let p : ℕ = entry.caller in
    let next : WorldState = (step w p entry.event).world in
    let still : HasTerminals next = step_keeps w p entry.event has in
    replay_shows laws rows cols c next
    (tape_after (is_allocated next.display c) (accepted_items w p c entry.event) tape) entries still
    (follow laws rows cols c w p entry.event tape has shown still)

-- at a start
new_if : (b : Bool) (rows cols : ℕ)
    → Shows rows cols (cond b (Some (new_terminal rows cols)) None)
    (tape_after (is_some (cond b (Some fresh) None)) [] None)
new_if true rows cols = refl
new_if false rows cols = refl

new_shows : (rows cols consoles : ℕ) (numbers : List ℕ) (c : ℕ)
    → Shows rows cols
    (get_or (map (λ n. cond (is_among consoles n) (Some (new_terminal rows cols)) None) numbers) c None)
    (tape_after
    (is_some (get_or (map (λ n. cond (is_among consoles n) (Some fresh) None) numbers) c None)) []
    None)
new_shows rows cols consoles [] c = refl
new_shows rows cols consoles (n ∷ numbers) zero = new_if (is_among consoles n) rows cols
new_shows rows cols consoles (n ∷ numbers) (suc c) = new_shows rows cols consoles numbers c

opening_shows : (rows cols consoles front keyboards : ℕ) (processes : List ProcStart) (tables : Tables)
    (c : ℕ) → c < 64
    → ShownIn rows cols c (start_world rows cols consoles front keyboards processes tables)
    (tape_after (is_allocated (start_world rows cols consoles front keyboards processes tables).display c) [] None)
opening_shows rows cols consoles front keyboards processes tables c within = record {
  rows_are = refl;
  cols_are = refl;
  room = within;
  shows = new_shows rows cols consoles (range_with_len 0 64) c;
}

start_shows : (w : WorldState) (start : IsStart w) (c : ℕ) → c < 64
    → ShownIn start.rows start.cols c w (tape_after (is_allocated w.display c) [] None)
start_shows w start c within =
    subst
    (λ (x : WorldState).
    ShownIn start.rows start.cols c x (tape_after (is_allocated x.display c) [] None))
    (sym start.opened)
    (opening_shows start.rows start.cols start.consoles start.front start.keyboards start.processes start.tables c
    within)

pub screens_are_tapes : StretchesRun → AnyTapeCut → ScreensAreTapes
screens_are_tapes stretches cuts w entries start c within =
    (replay_shows (record { stretches = stretches; cuts = cuts }) start.rows start.cols c w
    (tape_after (is_allocated w.display c) [] None) entries (start_has w start)
    (start_shows w start c within)).shows
