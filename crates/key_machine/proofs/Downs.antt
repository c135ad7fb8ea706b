-- The list of keys down against the entries by place.
use Rattle.std.proofs.Common.{◌≡◌, ℕ, ◌+◌, ◌*◌, ◌/◌, ◌%◌, ◌<◌, ◌≤◌, not, Bool, List, [], ◌∷◌, ◌++◌, length, get_or, Option, Some, None, refl, sym, ap, arith, zero, suc, rules}
use Rattle.std.specs.Prelude.{filter, find, slice_set}
use Rattle.std.specs.List.{list_any}
use Rattle.std.specs.Option.{option_map}
use Rattle.key_machine.specs.Held.{downs, downs_from, holds_modifier}
use Rattle.key_machine.specs.Keys.{Down, down_as, is_before, is_key, is_modifier, recorded_action, with_key, without_key}
use Rattle.key_machine.proofs.Places.{after, before, elsewhere, here, not-after, not-before}
use Rattle.key_syms.specs.Act.{Act}

-- the tests of a key
abbrev is_below : ℕ → ℕ → Down → Bool
is_below from code d = is_before d.from d.code from code

abbrev is_above : ℕ → ℕ → Down → Bool
is_above from code d = is_before from code d.from d.code

abbrev is_other : ℕ → ℕ → Down → Bool
is_other from code d = not (is_key from code d)

-- the entry of place n, before those of the next places
abbrev first : ℕ → Act → List Down → List Down
first n a ds = down_as (n / 256) (n % 256) a ∷ ds

-- the keys from place n on are none of those below
none_at : (entries : List (Option Act)) (n from code : ℕ) → code < 256 → 256 * from + code < n
    → find (is_key from code) (downs_from n entries) ≡ None
none_at [] n from code low lt = refl
none_at (None ∷ entries) n from code low lt = none_at entries (n + 1) from code low (omega arith)
none_at (Some a ∷ entries) n from code low lt =
    rw (elsewhere n from code (omega arith) low) (none_at entries (n + 1) from code low (omega arith))

none_below : (entries : List (Option Act)) (n from code : ℕ) → code < 256 → 256 * from + code ≤ n
    → filter (is_below from code) (downs_from n entries) ≡ []
none_below [] n from code low le = refl
none_below (None ∷ entries) n from code low le = none_below entries (n + 1) from code low (omega arith)
none_below (Some a ∷ entries) n from code low le =
    rw (not-before n from code le low) (none_below entries (n + 1) from code low (omega arith))

all_above : (entries : List (Option Act)) (n from code : ℕ) → code < 256 → 256 * from + code < n
    → filter (is_above from code) (downs_from n entries) ≡ downs_from n entries
all_above [] n from code low lt = refl
all_above (None ∷ entries) n from code low lt = all_above entries (n + 1) from code low (omega arith)
all_above (Some a ∷ entries) n from code low lt =
    rw (after n from code lt low) (ap (first n a) (all_above entries (n + 1) from code low (omega arith)))

all_other : (entries : List (Option Act)) (n from code : ℕ) → code < 256 → 256 * from + code < n
    → filter (is_other from code) (downs_from n entries) ≡ downs_from n entries
all_other [] n from code low lt = refl
all_other (None ∷ entries) n from code low lt = all_other entries (n + 1) from code low (omega arith)
all_other (Some a ∷ entries) n from code low lt =
    rw (elsewhere n from code (omega arith) low)
    (ap (first n a) (all_other entries (n + 1) from code low (omega arith)))

-- what is found of a key, which is that of place i
found_at : (entries : List (Option Act)) (n i from code : ℕ) → code < 256 → 256 * from + code ≡ n + i
    → option_map (λ (d : Down). d.action) (find (is_key from code) (downs_from n entries)) ≡ get_or entries i None
found_at [] n i from code low is = refl
found_at (None ∷ entries) n zero from code low is =
    rw (none_at entries (n + 1) from code low (omega arith)) refl
found_at (Some a ∷ entries) n zero from code low is = rw (here n from code (omega arith) low) refl
found_at (None ∷ entries) n (suc i) from code low is = found_at entries (n + 1) i from code low (omega arith)
found_at (Some a ∷ entries) n (suc i) from code low is =
    rw (elsewhere n from code (omega arith) low) (found_at entries (n + 1) i from code low (omega arith))

-- a key between those before it and those after it
abbrev placed : List Down → ℕ → ℕ → Act → List Down
placed down from code a =
    filter (is_below from code) down ++ down_as from code a ∷ filter (is_above from code) down

-- the key of a place
key_of : (n from code : ℕ) (a : Act) → code < 256 → n ≡ 256 * from + code
    → down_as (n / 256) (n % 256) a ≡ down_as from code a
key_of n from code a low is =
    let high : n / 256 ≡ from = omega arith in
    let rest : n % 256 ≡ code = omega arith in
    rw (high, rest) refl

placed_at : (entries : List (Option Act)) (n i from code : ℕ) (a : Act) → code < 256
    → 256 * from + code ≡ n + i → i < length entries
    → downs_from n (slice_set entries i (Some a)) ≡ placed (downs_from n entries) from code a
placed_at [] n i from code a low is lt = absurd (omega arith)
placed_at (None ∷ entries) n zero from code a low is lt =
    grind (arith, none_below, all_above, key_of)
placed_at (Some b ∷ entries) n zero from code a low is lt =
    grind (arith, not-before, not-after, none_below, all_above, key_of)
placed_at (None ∷ entries) n (suc i) from code a low is lt =
    placed_at entries (n + 1) i from code a low (omega arith) (omega arith)
placed_at (Some b ∷ entries) n (suc i) from code a low is lt =
    rw (before n from code (omega arith) low, not-after n from code (omega arith) low)
    (ap (first n b) (placed_at entries (n + 1) i from code a low (omega arith) (omega arith)))

left_at : (entries : List (Option Act)) (n i from code : ℕ) → code < 256 → 256 * from + code ≡ n + i
    → i < length entries
    → downs_from n (slice_set entries i None) ≡ filter (is_other from code) (downs_from n entries)
left_at [] n i from code low is lt = absurd (omega arith)
left_at (None ∷ entries) n zero from code low is lt =
    sym (all_other entries (n + 1) from code low (omega arith))
left_at (Some b ∷ entries) n zero from code low is lt =
    rw (here n from code (omega arith) low) (sym (all_other entries (n + 1) from code low (omega arith)))
left_at (None ∷ entries) n (suc i) from code low is lt =
    left_at entries (n + 1) i from code low (omega arith) (omega arith)
left_at (Some b ∷ entries) n (suc i) from code low is lt =
    rw (elsewhere n from code (omega arith) low)
    (ap (first n b) (left_at entries (n + 1) i from code low (omega arith) (omega arith)))

any_from : (entries : List (Option Act)) (n v : ℕ)
    → list_any (λ (d : Down). is_modifier v d.action) (downs_from n entries) ≡ list_any (holds_modifier v) entries
any_from [] n v = refl
any_from (None ∷ entries) n v = any_from entries (n + 1) v
any_from (Some a ∷ entries) n v = rw (any_from entries (n + 1) v) refl

pub recorded_action-downs : (entries : List (Option Act)) (from code : ℕ) → code < 256
    → recorded_action (downs entries) from code ≡ get_or entries (256 * from + code) None
unfolding recorded_action downs
recorded_action-downs entries from code low = found_at entries 0 (256 * from + code) from code low (omega arith)

pub with_key-downs : (entries : List (Option Act)) (from code : ℕ) (a : Act) → code < 256
    → 256 * from + code < length entries
    → downs (slice_set entries (256 * from + code) (Some a)) ≡ with_key (downs entries) from code a
unfolding with_key downs
with_key-downs entries from code a low lt =
    placed_at entries 0 (256 * from + code) from code a low (omega arith) lt

pub without_key-downs : (entries : List (Option Act)) (from code : ℕ) → code < 256
    → 256 * from + code < length entries
    → downs (slice_set entries (256 * from + code) None) ≡ without_key (downs entries) from code
unfolding without_key downs
without_key-downs entries from code low lt =
    left_at entries 0 (256 * from + code) from code low (omega arith) lt

pub any_downs : (entries : List (Option Act)) (v : ℕ)
    → list_any (λ (d : Down). is_modifier v d.action) (downs entries) ≡ list_any (holds_modifier v) entries
unfolding downs
any_downs entries v = any_from entries 0 v

-- what a proof about the entries needs
pub ruleset entries_as_keys = (recorded_action-downs, with_key-downs, without_key-downs)
