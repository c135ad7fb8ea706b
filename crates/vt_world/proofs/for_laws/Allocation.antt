-- After every event the consoles that have a terminal are those that are allocated.
use Rattle.std.proofs.Common.{◌≡◌, ◌++◌, ℕ, zero, suc, Bool, true, false, cond, List, [], ◌∷◌, filter, flat_map, get_or, set, map, Option, Some, None, refl, sym, ap, subst, ◌∙◌}
use Rattle.std.proofs.lemmas.Bool.{and_parts, false≢true, or_from, or_parts}
use Rattle.std.specs.List.{range_with_len}
use Rattle.std.specs.Prelude.{◌&&◌, ◌||◌, ◌==◌, is_some, not, unwrap_or}
use Rattle.call_bytes.specs.Colours.{colours_in}
use Rattle.call_bytes.specs.Words.{words_in}
use Rattle.vt_base.specs.declared.errno.Errno.{Errno}
use Rattle.vt_base.specs.declared.errno.Errno.TheVariants.{Busy}
use Rattle.vt_events.specs.declared.entry.Entry.{Entry}
use Rattle.vt_events.specs.declared.event.Event.{Event}
use Rattle.vt_events.specs.declared.event.Event.TheVariants as event
use Rattle.vt_procs.specs.Callers.{is_opened}
use Rattle.vt_procs.specs.declared.proc_start.ProcStart.{ProcStart}
use Rattle.vt_canvas.specs.Change.{palette, resize, user_map}
use Rattle.vt_canvas.specs.declared.out.Out.{Out}
use Rattle.vt_switch.specs.Acts.{SwitchAct, Allocate, Request, SetMode, Free, after}
use Rattle.vt_switch.specs.Calls.{free, without_console, is_held, names}
use Rattle.vt_switch.specs.Display.{Display, fresh, or_fresh, owner_of}
use Rattle.vt_switch.specs.Moments.{Core, core_after, is_live, marks, raise}
use Rattle.vt_switch.specs.declared.console.Console.{Console}
use Rattle.vt_switch.specs.declared.mark.Mark.{Mark}
use Rattle.vt_world.proofs.for_laws.Quiet.{are_quiet, is_quiet_act, is_quiet_own, outs_quiet, row_quiet}
use Rattle.vt_world.proofs.for_laws.Steps.{by_step}
use Rattle.vt_world.specs.Deeds.{Deed, Asks, By, Clears, Own, OwnDeed, Alters, Raises, Starts, Writes, after_switch_act, apply_deeds, apply_deed, apply_own_deed, after_request}
use Rattle.vt_world.specs.Heard.{without_marks, apply_mark, apply_marks}
use Rattle.vt_world.specs.History.{replay}
use Rattle.vt_world.specs.Laws.{IsStart, TerminalsAreAllocated}
use Rattle.vt_world.specs.Events.{own_refusals, row}
use Rattle.vt_world.specs.Rows.{free_deeds, out_deeds}
use Rattle.vt_world.specs.Start.{start_world}
use Rattle.vt_world.specs.State.{WorldState, HasTerminals, core}
use Rattle.vt_world.specs.Step.{Outcome, step}
use Rattle.vt_world.specs.Terminals.{new_terminal, said_of, terminal_at}
use Rattle.vt_world.specs.Refusals.{Refusal, first_refusal, is_in_use, console_by_number, needs_console_or_0, needs_open, needs_right, refusal, target}
use Rattle.vt_world.specs.Wanted.{wanted_in}
use Rattle.key_tables.specs.Tables.{Tables}
use Rattle.vt_world.proofs.Alters.{altered_alike}
use Rattle.vt_world.proofs.Freed.{freed_alike}
use Rattle.vt_world.proofs.Places.{allocated_alike, each_alike, written_alike}
use Rattle.vt_world.proofs.Stays.{after_alike, stays}

-- which places are taken
abbrev taken : {A : Type 0} → List (Option A) → List Bool
taken places = map is_some places

-- an act that allocates and frees no console
guarded : (live : Bool) (k : Core) (d : Display) → taken d.consoles ≡ taken k.display.consoles
    → taken (cond live (record k { display = d }) k).display.consoles ≡ taken k.display.consoles
guarded true k d same = same
guarded false k d same = refl

act_kept : (k : Core) (act : SwitchAct) → stays act ≡ true
    → taken (core_after k act).display.consoles ≡ taken k.display.consoles
act_kept k (SetMode c p m) it =
    guarded (is_live k p) k (after k.display (SetMode c p m)) (after_alike k.display (SetMode c p m) refl)
act_kept k act it = after_alike k.display act it

tell_keeps : (w : WorldState) (told : List Mark) → HasTerminals w → HasTerminals (apply_marks w told)
tell_keeps w [] has = has
tell_keeps w (m ∷ told) has = tell_keeps (apply_mark w m) told has

acted_keeps : (w : WorldState) (act : SwitchAct) → stays act ≡ true → HasTerminals w
    → HasTerminals (after_switch_act w act)
acted_keeps w act it has =
    let k : Core = core_after (core w) act in
    tell_keeps (record w { display = k.display }) (marks (core w) act)
    (has ∙ sym (act_kept (core w) act it))

quiet_act_keeps : (w : WorldState) (act : SwitchAct) → is_quiet_act act ≡ true → HasTerminals w
    → HasTerminals (after_switch_act w act)
quiet_act_keeps w (Allocate n) quiet has = absurd (false≢true quiet)
quiet_act_keeps w (Free n) quiet has = absurd (false≢true quiet)
quiet_act_keeps w act quiet has = acted_keeps w act refl has

request_keeps : (w : WorldState) (wanted : Option ℕ) → HasTerminals w
    → HasTerminals (after_request w wanted)
request_keeps w None has = has
request_keeps w (Some n) has = acted_keeps w (Request n) refl has

quiet_own_keeps : (w : WorldState) (deed : OwnDeed) → is_quiet_own deed ≡ true → HasTerminals w
    → HasTerminals (apply_own_deed w deed)
quiet_own_keeps w (Starts n) quiet has = absurd (false≢true quiet)
quiet_own_keeps w (Clears n) quiet has = absurd (false≢true quiet)
quiet_own_keeps w (Writes n bytes) quiet has = absurd (false≢true quiet)
quiet_own_keeps w (Alters n m) quiet has = absurd (false≢true quiet)
quiet_own_keeps w (Raises p signal) quiet has = tell_keeps w (raise (core w) p signal) has
quiet_own_keeps w deed quiet has = has

quiet_keeps : (w : WorldState) (deeds : List Deed) → are_quiet deeds ≡ true → HasTerminals w
    → HasTerminals (apply_deeds w deeds)
quiet_keeps w [] quiet has = has
quiet_keeps w (By act ∷ deeds) quiet has =
    quiet_keeps (after_switch_act w act) deeds ((and_parts (is_quiet_act act) (are_quiet deeds) quiet).1)
    (quiet_act_keeps w act ((and_parts (is_quiet_act act) (are_quiet deeds) quiet).0) has)
quiet_keeps w (Asks wanted ∷ deeds) quiet has =
    quiet_keeps (apply_deed w (Asks wanted)) deeds quiet
    (request_keeps w (wanted_in w.display wanted) has)
quiet_keeps w (Own deed ∷ deeds) quiet has =
    quiet_keeps (apply_own_deed w deed) deeds ((and_parts (is_quiet_own deed) (are_quiet deeds) quiet).1)
    (quiet_own_keeps w deed ((and_parts (is_quiet_own deed) (are_quiet deeds) quiet).0) has)

-- a console that isn't held is freed, and its terminal with it
frees_keeps : (w : WorldState) (n : ℕ) → is_held w.display n ≡ false → HasTerminals w
    → HasTerminals (apply_deed (apply_deed w (By (Free n))) (Own (Clears n)))
frees_keeps w n loose has =
    freed_alike n w.terminals w.display has
    ∙ sym
    (ap (λ (held : Bool). taken (cond held w.display (without_console w.display n)).consoles) loose)

abbrev is_owned : Option Console → Bool
is_owned place = is_some (owner_of (or_fresh place).handling)

none_owned : (places : List (Option Console)) (n k : ℕ) → is_owned (get_or places k None) ≡ false
    → is_owned (get_or (set places n None) k None) ≡ false
none_owned [] n k loose = loose
none_owned (place ∷ places) zero zero loose = refl
none_owned (place ∷ places) zero (suc k) loose = loose
none_owned (place ∷ places) (suc n) zero loose = loose
none_owned (place ∷ places) (suc n) (suc k) loose = none_owned places n k loose

-- to free a console makes no other held
freed_loose : (d : Display) (n k : ℕ) → is_held d k ≡ false → is_held (without_console d n) k ≡ false
freed_loose d n k loose =
    let console_by_number : Bool = k == d.front || names k d.pending in
    let owned : Bool = is_owned (get_or d.consoles k None) in
    or_from console_by_number (is_owned (get_or (set d.consoles n None) k None)) ((or_parts console_by_number owned loose).0) (none_owned d.consoles n k ((or_parts console_by_number owned loose).1))

loose_if : (held : Bool) (d : Display) (n k : ℕ) → is_held d k ≡ false
    → is_held (cond held d (without_console d n)) k ≡ false
loose_if true d n k loose = loose
loose_if false d n k loose = freed_loose d n k loose

not_used : (w : WorldState) (n : ℕ) → is_in_use w n ≡ false → is_held w.display n ≡ false
not_used w n unused =
    (or_parts (n == 1) (is_held w.display n) ((or_parts (n == 1 || is_held w.display n) (is_opened w.callers n) unused).0)).1

-- all consoles that v didn't use are freed
abbrev unused : WorldState → List ℕ → List ℕ
unused v numbers = filter (λ c. not (is_in_use v c)) numbers

abbrev Looser : WorldState → WorldState → Type 0
Looser v w = (k : ℕ) → is_held v.display k ≡ false → is_held w.display k ≡ false

abbrev without : WorldState → ℕ → WorldState
without w n = apply_deed (apply_deed w (By (Free n))) (Own (Clears n))

free_unless : (v w : WorldState) (n : ℕ) (used : Bool) (rest : List ℕ) → is_in_use v n ≡ used
    → HasTerminals (apply_deeds w (flat_map free_deeds rest))
    → (is_in_use v n ≡ false → HasTerminals (apply_deeds (without w n) (flat_map free_deeds rest)))
    → HasTerminals (apply_deeds w (flat_map free_deeds (cond (not used) (n ∷ rest) rest)))
free_unless v w n true rest is skipped freed = skipped
free_unless v w n false rest is skipped freed = freed is

all_frees_keep : (v w : WorldState) (numbers : List ℕ) → Looser v w → HasTerminals w
    → HasTerminals (apply_deeds w (flat_map free_deeds (unused v numbers)))
all_frees_keep v w [] looser has = has
all_frees_keep v w (n ∷ numbers) looser has =
    let rest : List ℕ = unused v numbers in
    free_unless v w n (is_in_use v n) rest refl (all_frees_keep v w numbers looser has)
    (λ free.
    all_frees_keep v (without w n) numbers
    (λ k loose. loose_if (is_held w.display n) w.display n k (looser k loose))
    (frees_keeps w n (looser n (not_used v n free)) has))

frees_if : (all : Bool) (w : WorldState) (n : ℕ) → (not all && is_in_use w n) ≡ false
    → HasTerminals w
    → HasTerminals (apply_deeds w (cond all (flat_map free_deeds (unused w (range_with_len 1 63))) (free_deeds n)))
frees_if true w n free has = all_frees_keep w w (range_with_len 1 63) (λ k loose. loose) has
frees_if false w n free has = frees_keeps w n (not_used w n free) has

-- where nothing refuses, the last test doesn't apply
pass_if : (b : Bool) (errno : Errno) (rest : Option Errno) → cond b (Some errno) rest ≡ None
    → (b ≡ false) × (rest ≡ None)
pass_if true errno rest none = absurd (false≢true (sym (ap (λ (e : Option Errno). is_some e) none)))
pass_if false errno rest none = (refl, none)

last_passes : (refusals : List Refusal) (last : Refusal)
    → first_refusal (refusals ++ last ∷ []) ≡ None → last.applies ≡ false
last_passes [] last none = (pass_if last.applies last.with None none).0
last_passes (r ∷ refusals) last none =
    last_passes refusals last
    (pass_if r.applies r.with (first_refusal (refusals ++ last ∷ [])) none).1

disallocate_keeps : (w : WorldState) (p fd n : ℕ)
    → first_refusal (own_refusals w p (event.Disallocate fd n)) ≡ None → HasTerminals w
    → HasTerminals (apply_deeds w (row w p (event.Disallocate fd n)).deeds)
disallocate_keeps w p fd n accepted has =
    let others : List Refusal = needs_open w p fd ∷ needs_right w p fd ∷ needs_console_or_0 n ∷ [] in
    frees_if (n == 0) w n
    (last_passes others (refusal (not (n == 0) && is_in_use w n) Busy) accepted) has

-- the deeds of an event that nothing refuses
row_keeps : (w : WorldState) (p : ℕ) (e : Event) → first_refusal (own_refusals w p e) ≡ None
    → HasTerminals w → HasTerminals (apply_deeds w (row w p e).deeds)
row_keeps w p (event.OpenCon n) accepted has =
    allocated_alike (console_by_number w n) w.rows w.cols w.display.consoles w.terminals has
row_keeps w p (event.Activate fd n) accepted has =
    acted_keeps (apply_deed (apply_deed w (By (Allocate n))) (Own (Starts n))) (Request n) refl
    (allocated_alike n w.rows w.cols w.display.consoles w.terminals has)
row_keeps w p (event.Write fd b) accepted has =
    let c : ℕ = target w p fd in
    let said : List Out = said_of (terminal_at w.terminals c) b.bytes in
    quiet_keeps (apply_deed w (Own (Writes c b.bytes))) (flat_map (out_deeds c) said) (outs_quiet c said)
    (written_alike c b.bytes w.terminals ∙ has)
row_keeps w p (event.Disallocate fd n) accepted has = disallocate_keeps w p fd n accepted has
row_keeps w p (event.Resize fd rows cols) accepted has =
    altered_alike (target w p fd) (resize rows cols) w.terminals ∙ has
row_keeps w p (event.SetMap fd b) accepted has =
    altered_alike (target w p fd) (user_map (unwrap_or (words_in b.bytes) [])) w.terminals ∙ has
row_keeps w p (event.SetPal fd b) accepted has =
    altered_alike (target w p fd) (palette (unwrap_or (colours_in b.bytes) [])) w.terminals ∙ has
row_keeps w p e accepted has =
    quiet_keeps w (row w p e).deeds (row_quiet w p e (λ n scanner. refl)) has

pub step_keeps : (w : WorldState) (p : ℕ) (e : Event) → HasTerminals w
    → HasTerminals (step w p e).world
step_keeps w p e has =
    by_step (λ (deeds : List Deed) (after : Outcome). HasTerminals after.world) w p e
    (λ errno. has) (λ accepted. row_keeps (without_marks w) p e accepted has)

-- at a start
opening_has : (rows cols consoles front keyboards : ℕ) (processes : List ProcStart) (tables : Tables)
    → HasTerminals (start_world rows cols consoles front keyboards processes tables)
opening_has rows cols consoles front keyboards processes tables =
    each_alike consoles (new_terminal rows cols) fresh

replay_keeps : (w : WorldState) (entries : List Entry) → HasTerminals w
    → HasTerminals (replay w entries)
replay_keeps w [] has = has
replay_keeps w (entry ∷ entries) has =
    replay_keeps (step w entry.caller entry.event).world entries
    (step_keeps w entry.caller entry.event has)

pub start_has : (w : WorldState) → IsStart w → HasTerminals w
start_has w start =
    subst HasTerminals (sym start.opened)
    (opening_has start.rows start.cols start.consoles start.front start.keyboards start.processes start.tables)

pub terminals_are_allocated : TerminalsAreAllocated
terminals_are_allocated w entries start = replay_keeps w entries (start_has w start)
