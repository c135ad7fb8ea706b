-- Histories of a keyboard, event by event.
use Rattle.std.proofs.Common.{◌≡◌, ◌≢◌, ℕ, ◌==◌, ◌&&◌, Bool, true, false, cond, List, [], ◌∷◌, Option, Some, None, is_some, refl, sym, ap, ◌∙◌, arith, rules}
use Rattle.std.proofs.lemmas.Bool.{cases_Bool, false≢true}
use Rattle.key_machine.proofs.Places.{apart, both_same}
use Rattle.key_machine.proofs.for_laws.Following.{fresh_down, keys_follow, recorded_action-with_key, recorded_action-without_key, recorded_action-without_keyboard, release_step_down}
use Rattle.key_machine.specs.Histories.{AllComeUp, DownsAreLast, LocksStay, PressesRecord, ReleasesTake, Turn, keys_after, keys_by, last_says, looked_up, says}
use Rattle.key_machine.specs.Keys.{Down, Keys, State, recorded_action, start_keys, weight_of, with_key}
use Rattle.key_machine.specs.Step.{Step, action_step, acting_press_step, press_step, release_step, special}
use Rattle.key_machine.specs.declared.key_modes.KeyModes.{KeyModes}
use Rattle.key_syms.specs.Act.{Act}
use Rattle.key_syms.specs.Kinds.{LOCK}
use Rattle.key_tables.specs.Tables.{Tables}
use Rattle.scan_codes.specs.declared.key_event.KeyEvent.{KeyEvent}

-- a choice, the later of two
says_kept : (on from code : ℕ) (e : KeyEvent) (before : Bool)
    → cond (on == from && code == e.code) e.down before
    ≡ cond (on == from) (cond (code == e.code) e.down before) before
says_kept on from code e before = search (rules, cases_Bool)

gone : (on from : ℕ) (o : Option Act) → is_some (cond (on == from) None o) ≡ cond (on == from) false (is_some o)
gone on from o = search (rules, cases_Bool)

one_says : (event : Option KeyEvent) (t : Turn) (keys : Keys) (before : Bool) (on code : ℕ)
    → is_some (recorded_action keys.down on code) ≡ before
    → is_some (recorded_action (keys_by event t keys).down on code)
    ≡ cond (on == t.from) (says event before code) before
one_says None t keys before on code e =
    grind (arith, is_some, recorded_action-without_keyboard, gone)
one_says (Some event) t keys before on code e =
    grind (arith, keys_follow, says_kept)

last_from : (turns : List Turn) (keys : Keys) (before : Bool) (on code : ℕ)
    → is_some (recorded_action keys.down on code) ≡ before
    → is_some (recorded_action (keys_after turns keys).down on code) ≡ last_says turns before on code
last_from [] keys before on code e = e
last_from (t ∷ turns) keys before on code e =
    last_from turns (keys_by t.event t keys) (cond (on == t.from) (says t.event before code) before) on code
    (one_says t.event t keys before on code e)

none_first : (on code : ℕ) → is_some (recorded_action [] on code) ≡ false
unfolding recorded_action
none_first on code = refl

pub downs_are_last : DownsAreLast
downs_are_last turns on code = last_from turns start_keys false on code (none_first on code)

none_down : (down : List Down) → ((on code : ℕ) → is_some (recorded_action down on code) ≡ false) → down ≡ []
unfolding recorded_action
none_down [] up = refl
none_down (d ∷ down) up =
    let found : is_some (recorded_action (d ∷ down) d.from d.code) ≡ true =
    rw (both_same d.from d.from d.code d.code refl refl) refl in
    absurd (false≢true (sym (up d.from d.code) ∙ found))

no_weight : weight_of [] ≡ 0
unfolding weight_of
no_weight = refl

pub all_come_up : AllComeUp
all_come_up turns up =
    let none = none_down (keys_after turns start_keys).down
    (λ on code. downs_are_last turns on code ∙ up on code) in
    (none, ap weight_of none ∙ no_weight)

pub presses_record : PressesRecord
presses_record tables modes from e keys s down up =
    grind (arith, fresh_down, recorded_action-with_key, both_same)

pub releases_take : ReleasesTake
releases_take tables modes from e keys s on code up =
    cc (release_step_down from e.code keys s, recorded_action-without_key keys.down from e.code on code)

-- the locks after a choice
locks_cond : (b : Bool) (x y : Step) → (cond b x y).state.locks ≡ cond b x.state.locks y.state.locks
locks_cond true x y = refl
locks_cond false x y = refl

locks_choice : (b : Bool) (x y : State) → (cond b x y).locks ≡ cond b x.locks y.locks
locks_choice true x y = refl
locks_choice false x y = refl

cond_same : (b : Bool) (n : ℕ) → cond b n n ≡ n
cond_same true n = refl
cond_same false n = refl

special_locks : (modes : KeyModes) (v : ℕ) (keys : Keys) (s : State) → (special modes v keys s).state.locks ≡ s.locks
unfolding special
special_locks modes v keys s = simp (locks_cond, cond_same)

action_step_locks : (tables : Tables) (modes : KeyModes) (weight : ℕ) (a : Act) (keys : Keys) (s : State)
    → (a.kind == LOCK) ≡ false → (action_step tables modes weight a keys s).state.locks ≡ s.locks
unfolding action_step
action_step_locks tables modes weight a keys s other = rw other (simp (locks_cond, special_locks, cond_same))

acting_press_step_locks : (tables : Tables) (modes : KeyModes) (weight : ℕ) (a : Act) (code : ℕ) (keys : Keys) (s : State)
    → (a.kind == LOCK) ≡ false → (acting_press_step tables modes weight a code keys s).state.locks ≡ s.locks
unfolding acting_press_step
acting_press_step_locks tables modes weight a code keys s other =
    search (rules, action_step_locks, locks_cond, locks_choice, cond_same)

press_step_locks : (tables : Tables) (modes : KeyModes) (from code : ℕ) (keys : Keys) (s : State)
    → (looked_up tables code keys s).kind ≢ LOCK → (press_step tables modes from code keys s).state.locks ≡ s.locks
unfolding press_step
press_step_locks tables modes from code keys s other =
    search (rules, apart, acting_press_step_locks, locks_cond, cond_same)

release_step_locks : (from code : ℕ) (keys : Keys) (s : State) → (release_step from code keys s).state.locks ≡ s.locks
unfolding release_step
release_step_locks from code keys s = simp (locks_cond, cond_same)

pub locks_stay : LocksStay
locks_stay tables modes from e keys s other = search (rules, press_step_locks, release_step_locks, cases_Bool)
