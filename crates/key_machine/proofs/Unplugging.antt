-- A keyboard's keys are released one after another.
use Rattle.std.proofs.Common.{◌≡◌, ℕ, ◌≤◌, ◌+◌, ◌/◌, ◌%◌, ◌==◌, ◌&&◌, not, Bool, true, false, List, [], ◌∷◌, Option, Some, None, length, refl, ap, arith, ⊎_elim, rules}
use Rattle.std.specs.Prelude.{filter}
use Rattle.std.proofs.lemmas.Bool.{cases_Bool, cases_order, eq-eqb, ne_eqb, and_right}
use Rattle.key_machine.specs.Held.{downs, downs_from, left_to, stays}
use Rattle.key_machine.specs.Keys.{Down, down_as, is_key, without_key, without_keyboard}
use Rattle.key_machine.proofs.Places.{apart, less, not-less}
use Rattle.key_syms.specs.Act.{Act}

none_yet : (from : ℕ) (d : Down) → stays from 0 d ≡ true
none_yet from d =
    rw (not-less d.code 0 (omega arith)) (rw (and_right (d.from == from) false refl) refl)

pub left_first : (from : ℕ) (down : List Down) → left_to from 0 down ≡ down
left_first from [] = refl
left_first from (d ∷ down) = rw (none_yet from d) (ap (λ (ds : List Down). d ∷ ds) (left_first from down))

-- one key more
stays_next : (from n : ℕ) (d : Down) → stays from (n + 1) d ≡ (stays from n d && not (is_key from n d))
stays_next from n d = search (rules, cases_order, eq-eqb, not-less, less, apart, cases_Bool)

filter_twice : (p q r : Down → Bool) → ((d : Down) → r d ≡ (p d && q d)) → (down : List Down)
    → filter q (filter p down) ≡ filter r down
filter_twice p q r both [] = refl
filter_twice p q r both (d ∷ down) = ⊎_elim
    (λ (kept : p d ≡ true). rw (both d, kept) (⊎_elim
    (λ (again : q d ≡ true). rw again (ap (λ (ds : List Down). d ∷ ds) (filter_twice p q r both down)))
    (λ (left : q d ≡ false). rw left (filter_twice p q r both down))
    (cases_Bool (q d))))
    (λ (left : p d ≡ false). rw (both d, left) (filter_twice p q r both down))
    (cases_Bool (p d))

pub left_next : (from n : ℕ) (down : List Down)
    → without_key (left_to from n down) from n ≡ left_to from (n + 1) down
unfolding without_key
left_next from n down =
    filter_twice (stays from n) (λ d. not (is_key from n d)) (stays from (n + 1)) (stays_next from n) down

-- below 256 are all keycodes
all_from : (entries : List (Option Act)) (from n : ℕ)
    → left_to from 256 (downs_from n entries) ≡ filter (λ (d : Down). not (d.from == from)) (downs_from n entries)
all_from [] from n = refl
all_from (None ∷ entries) from n = all_from entries from (n + 1)
all_from (Some a ∷ entries) from n =
    rw (less (n % 256) 256 (omega arith)) (⊎_elim
    (λ (here : (n / 256 == from) ≡ true). rw here (all_from entries from (n + 1)))
    (λ (other : (n / 256 == from) ≡ false).
    rw other (ap (λ (ds : List Down). down_as (n / 256) (n % 256) a ∷ ds) (all_from entries from (n + 1))))
    (cases_Bool (n / 256 == from)))

pub left_all : (entries : List (Option Act)) (from : ℕ)
    → left_to from 256 (downs entries) ≡ without_keyboard (downs entries) from
unfolding downs without_keyboard
left_all entries from = all_from entries from 0

-- 1,024 places are those of four keyboards
four_from : (entries : List (Option Act)) (from n : ℕ) → 4 ≤ from → n + length entries ≤ 1024
    → filter (λ (d : Down). not (d.from == from)) (downs_from n entries) ≡ downs_from n entries
four_from [] from n high all = refl
four_from (None ∷ entries) from n high all = four_from entries from (n + 1) high (omega (arith, all))
four_from (Some a ∷ entries) from n high all =
    let other : (n / 256 == from) ≡ false = ne_eqb (n / 256) from (λ same. let no : ⊥ = omega (arith, same, high, all) in no) in
    rw other (ap (λ (ds : List Down). down_as (n / 256) (n % 256) a ∷ ds) (four_from entries from (n + 1) high (omega (arith, all))))

pub four_all : (entries : List (Option Act)) (from : ℕ) → 4 ≤ from → length entries ≡ 1024
    → without_keyboard (downs entries) from ≡ downs entries
unfolding downs without_keyboard
four_all entries from high all = four_from entries from 0 high (omega (arith, all))
