-- The changes of the keys that are down by an event.
use Rattle.std.proofs.Common.{◌≡◌, ◌⊎◌, ℕ, ◌==◌, ◌&&◌, not, Bool, true, false, cond, List, [], ◌∷◌, Option, Some, None, is_some, refl, sym, ap, ◌∙◌, inl, inr, ⊎_elim, arith, rules}
use Rattle.std.specs.Prelude.{filter, find}
use Rattle.std.specs.Option.{option_map, option_or}
use Rattle.std.proofs.lemmas.Bool.{and_parts, cases_Bool, cases_order, eqb-true, false≢true}
use Rattle.std.proofs.lemmas.List.Folds.{find-append}
use Rattle.key_machine.proofs.Places.{both_other, both_same, first_after, first_before, second_after, second_before}
use Rattle.key_machine.specs.Keys.{Down, Keys, State, down_as, is_before, is_key, recorded_action, with_key, without_key, without_keyboard}
use Rattle.key_machine.specs.Histories.{looked_up}
use Rattle.key_machine.specs.Laws.{KeysFollow, RecordsStay, UnplugTakes}
use Rattle.key_machine.specs.Step.{Step, action_step, acting_press_step, press_step, release_step, special}
use Rattle.key_machine.specs.declared.key_modes.KeyModes.{KeyModes}
use Rattle.key_syms.specs.Act.{Act}
use Rattle.key_tables.specs.Tables.{Tables}

-- the keys down after a choice of two steps
down_cond : (b : Bool) (x y : Step) → (cond b x y).keys.down ≡ cond b x.keys.down y.keys.down
down_cond true x y = refl
down_cond false x y = refl

cond_same : (b : Bool) (down : List Down) → cond b down down ≡ down
cond_same true down = refl
cond_same false down = refl

special_down : (modes : KeyModes) (v : ℕ) (keys : Keys) (s : State) → (special modes v keys s).keys.down ≡ keys.down
unfolding special
special_down modes v keys s = simp (down_cond, cond_same)

action_step_down : (tables : Tables) (modes : KeyModes) (weight : ℕ) (a : Act) (keys : Keys) (s : State)
    → (action_step tables modes weight a keys s).keys.down ≡ keys.down
unfolding action_step
action_step_down tables modes weight a keys s = simp (down_cond, special_down, cond_same)

acting_press_step_down : (tables : Tables) (modes : KeyModes) (weight : ℕ) (a : Act) (code : ℕ) (keys : Keys) (s : State)
    → (acting_press_step tables modes weight a code keys s).keys.down ≡ keys.down
unfolding acting_press_step
acting_press_step_down tables modes weight a code keys s = simp (down_cond, action_step_down, cond_same)

-- a key that is up is recorded at its press, one that is down stays as it is
pub fresh_down : (tables : Tables) (modes : KeyModes) (from code : ℕ) (keys : Keys) (s : State)
    → is_some (recorded_action keys.down from code) ≡ false
    → (press_step tables modes from code keys s).keys.down ≡ with_key keys.down from code (looked_up tables code keys s)
unfolding press_step
fresh_down tables modes from code keys s up =
    search (rules, acting_press_step_down)

pub held_down : (tables : Tables) (modes : KeyModes) (from code : ℕ) (keys : Keys) (s : State)
    → is_some (recorded_action keys.down from code) ≡ true
    → (press_step tables modes from code keys s).keys.down ≡ keys.down
unfolding press_step
held_down tables modes from code keys s down = rw down (simp (down_cond, acting_press_step_down, cond_same))

pub release_step_down : (from code : ℕ) (keys : Keys) (s : State)
    → (release_step from code keys s).keys.down ≡ without_key keys.down from code
unfolding release_step
release_step_down from code keys s = simp (down_cond, cond_same)

-- a test of a key that a keyboard and a keycode decide
abbrev Test : Type 0
Test = ℕ → ℕ → Bool

-- the key is another one than this
abbrev is_not : ℕ → ℕ → Test
is_not at code on key = not (on == at && key == code)

numbers_same : (a b c d : ℕ) → (a == b && c == d) ≡ true → (a ≡ b) × (c ≡ d)
numbers_same a b c d is =
    let both = and_parts (a == b) (c == d) is in (eqb-true a b both.0, eqb-true c d both.1)

is-key : (from code : ℕ) (d : Down) → is_key from code d ≡ true → (d.from ≡ from) × (d.code ≡ code)
is-key from code d is = numbers_same d.from from d.code code is

-- a key is found among those that pass, where it passes itself
find_passed : (p : Test) (down : List Down) (from code : ℕ) → p from code ≡ true
    → find (is_key from code) (filter (λ d. p d.from d.code) down) ≡ find (is_key from code) down
find_passed p [] from code passes = refl
find_passed p (d ∷ down) from code passes = ⊎_elim
    (λ (here : is_key from code d ≡ true).
    let same = is-key from code d here in
    let kept : p d.from d.code ≡ true = rw (same.0, same.1) passes in
    rw kept (rw here refl))
    (λ (other : is_key from code d ≡ false).
    rw other (⊎_elim
    (λ (kept : p d.from d.code ≡ true). rw kept (rw other (find_passed p down from code passes)))
    (λ (left : p d.from d.code ≡ false). rw left (find_passed p down from code passes))
    (cases_Bool (p d.from d.code))))
    (cases_Bool (is_key from code d))

find_left : (p : Test) (down : List Down) (from code : ℕ) → p from code ≡ false
    → find (is_key from code) (filter (λ d. p d.from d.code) down) ≡ None
find_left p [] from code fails = refl
find_left p (d ∷ down) from code fails = ⊎_elim
    (λ (kept : p d.from d.code ≡ true).
    let other : is_key from code d ≡ false = grind (arith, is-key, false≢true, cases_Bool) in
    rw kept (rw other (find_left p down from code fails)))
    (λ (left : p d.from d.code ≡ false). rw left (find_left p down from code fails))
    (cases_Bool (p d.from d.code))

or_none : (o : Option Down) → option_or o None ≡ o
or_none None = refl
or_none (Some d) = refl

-- how a key stands to the key that goes down: it is the same, or it comes before or after it
abbrev Same : ℕ → ℕ → ℕ → ℕ → Type 0
Same at key from code = (from ≡ at) × (code ≡ key)

record Apart (at key from code : ℕ) (low : Bool) : Type 0 where
  other : (from == at && code == key) ≡ false
  no_match : (at == from && key == code) ≡ false
  below : is_before from code at key ≡ low
  above : is_before at key from code ≡ not low

keys_order : (at key from code : ℕ)
    → Same at key from code ⊎ (Apart at key from code true ⊎ Apart at key from code false)
keys_order at key from code = elim (cases_order from at) [
  | inl same ↦ grind (arith, cases_order, both_other, second_before, second_after)
  | inr (inl lt) ↦ search (rules, both_other, first_before, first_after)
  | inr (inr gt) ↦ search (rules, both_other, first_after, first_before)
]

-- the tests of the keys before and after the one that goes down
abbrev lower : ℕ → ℕ → Test
lower at key from code = is_before from code at key

abbrev upper : ℕ → ℕ → Test
upper at key from code = is_before at key from code

found_with : (down : List Down) (at key from code : ℕ) (a : Act)
    → find (is_key from code) (with_key down at key a)
    ≡ option_or (find (is_key from code) (filter (λ d. lower at key d.from d.code) down))
    (find (is_key from code) (down_as at key a ∷ filter (λ d. upper at key d.from d.code) down))
unfolding with_key
found_with down at key from code a =
    search (rules, find-append)

-- what is recorded after a key went down
pub recorded_action-with_key : (down : List Down) (at key from code : ℕ) (a : Act)
    → recorded_action (with_key down at key a) from code
    ≡ cond (from == at && code == key) (Some a) (recorded_action down from code)
unfolding recorded_action
recorded_action-with_key down at key from code a =
    rw (found_with down at key from code a) (elim (keys_order at key from code) [
      | inl same ↦
          rw (
            find_left (lower at key) down from code (second_after from at code key same.0 (omega (arith, same.1))),
            both_same at from key code (sym same.0) (sym same.1),
            both_same from at code key same.0 same.1,
          ) refl
      | inr (inl low) ↦
          rw (
            low.other,
            low.no_match,
            find_passed (lower at key) down from code low.below,
            find_left (upper at key) down from code low.above,
          )
          (ap (λ o. option_map (λ (d : Down). d.action) o) (or_none (find (is_key from code) down)))
      | inr (inr high) ↦
          rw (
            high.other,
            high.no_match,
            find_left (lower at key) down from code high.below,
            find_passed (upper at key) down from code high.above,
          ) refl
    ])

-- and after it went up
pub recorded_action-without_key : (down : List Down) (at key from code : ℕ)
    → recorded_action (without_key down at key) from code
    ≡ cond (from == at && code == key) None (recorded_action down from code)
unfolding recorded_action without_key
recorded_action-without_key down at key from code = ⊎_elim
    (λ (here : (from == at && code == key) ≡ true).
    let left : is_not at key from code ≡ false = rw here refl in
    rw (find_left (is_not at key) down from code left) (rw here refl))
    (λ (other : (from == at && code == key) ≡ false).
    let passes : is_not at key from code ≡ true = rw other refl in
    rw (find_passed (is_not at key) down from code passes) (rw other refl))
    (cases_Bool (from == at && code == key))

-- and after its keyboard went
pub recorded_action-without_keyboard : (down : List Down) (at from code : ℕ)
    → recorded_action (without_keyboard down at) from code ≡ cond (from == at) None (recorded_action down from code)
unfolding recorded_action without_keyboard
recorded_action-without_keyboard down at from code = ⊎_elim
    (λ (here : (from == at) ≡ true).
    let left : not (from == at) ≡ false = rw here refl in
    rw (find_left (λ on _. not (on == at)) down from code left) (rw here refl))
    (λ (other : (from == at) ≡ false).
    let passes : not (from == at) ≡ true = rw other refl in
    rw (find_passed (λ on _. not (on == at)) down from code passes) (rw other refl))
    (cases_Bool (from == at))

pub unplug_takes : UnplugTakes
unplug_takes from keys = record {
  down = λ on code. recorded_action-without_keyboard keys.down from on code;
  waiting = refl;
  number = refl;
}

press_step_follows : (tables : Tables) (modes : KeyModes) (at key from code : ℕ) (keys : Keys) (s : State)
    → is_some (recorded_action (press_step tables modes at key keys s).keys.down from code)
    ≡ cond (from == at && code == key) true (is_some (recorded_action keys.down from code))
press_step_follows tables modes at key from code keys s = ⊎_elim
    (λ (down : is_some (recorded_action keys.down at key) ≡ true).
    let same = held_down tables modes at key keys s down in
    search (rules, numbers_same, cases_Bool))
    (λ (up : is_some (recorded_action keys.down at key) ≡ false).
    let fresh = fresh_down tables modes at key keys s up in
    rw (fresh, recorded_action-with_key keys.down at key from code (looked_up tables key keys s))
    (⊎_elim
    (λ (here : (from == at && code == key) ≡ true). rw here refl)
    (λ (other : (from == at && code == key) ≡ false). rw other refl)
    (cases_Bool (from == at && code == key))))
    (cases_Bool (is_some (recorded_action keys.down at key)))

pub keys_follow : KeysFollow
keys_follow tables modes from e keys s on code = ⊎_elim
    (λ (down : e.down ≡ true). rw down (press_step_follows tables modes from e.code on code keys s))
    (λ (up : e.down ≡ false).
    rw (up, release_step_down from e.code keys s, recorded_action-without_key keys.down from e.code on code)
    (⊎_elim
    (λ (here : (on == from && code == e.code) ≡ true). rw here refl)
    (λ (other : (on == from && code == e.code) ≡ false). rw other refl)
    (cases_Bool (on == from && code == e.code))))
    (cases_Bool e.down)

pub records_stay : RecordsStay
records_stay tables modes from e keys s on code down stays = ⊎_elim
    (λ (goes_down : e.down ≡ true).
    rw goes_down (⊎_elim
    (λ (held : is_some (recorded_action keys.down from e.code) ≡ true).
    rw (held_down tables modes from e.code keys s held) refl)
    (λ (up : is_some (recorded_action keys.down from e.code) ≡ false).
    let fresh = fresh_down tables modes from e.code keys s up in
    let other = both_other on from code e.code
    (λ first second. false≢true (sym up ∙ (rw (sym first, sym second) down))) in
    rw (fresh, recorded_action-with_key keys.down from e.code on code (looked_up tables e.code keys s), other) refl)
    (cases_Bool (is_some (recorded_action keys.down from e.code)))))
    (λ (goes_up : e.down ≡ false).
    let other = both_other on from code e.code (λ first second. false≢true (sym goes_up ∙ stays first second)) in
    rw (goes_up, release_step_down from e.code keys s, recorded_action-without_key keys.down from e.code on code, other)
    refl)
    (cases_Bool e.down)
