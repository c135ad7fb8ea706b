-- The name of an action stands for that action.
use Rattle.std.proofs.Common.{◌≡◌, ℕ, zero, suc, ◌+◌, ◌*◌, ◌/◌, ◌%◌, ◌<◌, ◌≤◌, Bool, true, false, ◌||◌, not, leb, cond, Some, None, ◌⊎◌, inl, inr, List, [], ◌∷◌, ◌++◌, codes, length, get_or, find, refl, sym, ap, ◌∙◌, subst, unwrap_or, arith}
use Rattle.std.proofs.lemmas.Bool.{and_parts, cases_lt, false≢true, leb-true, lt-ltb, le-ltb, not-true}
use Rattle.std.proofs.lemmas.Bool.Decides.{nat_tests}
use Rattle.std.proofs.lemmas.Slice.Eq.{bytes_eq-Decides}
use Rattle.std.specs.Bool.{nat_eq}
use Rattle.std.specs.List.{list_all, list_any, starts_with}
use Rattle.std.specs.Option.{option_and_then, option_map, option_or}
use Rattle.std.specs.Str.{bytes_eq}
use Rattle.key_syms.specs.Act.{Act, act, is_action, is_character}
use Rattle.key_syms.specs.Laws.{CodePointsAreTheirOwn, NamesAreTheirOwn}
use Rattle.key_syms.specs.Names.{code_name, code_point, first_name, hex4, hex_digit, listed_action, name_text, same_act, small_number, symbol, unlisted_action}
use Rattle.key_syms.specs.Numbers.{digit_in, number_if, number_in_base}
use Rattle.key_syms.specs.Symbols.{Symbol, symbols}
use Rattle.key_syms.specs.declared.table.TheConstants.{NAME_COUNT}
use Rattle.key_syms.proofs.Computed.{length-symbols}
use Rattle.key_syms.proofs.Listed.{find_at}
use Rattle.key_syms.proofs.for_laws.Named.{is_named, named_or_character}
use Rattle.key_syms.proofs.Rows.{listed_action_found, no_symbol, row, row_name, row_at, same_act-true}

-- the first item that passes, or that none does
pub data Search {X : Type 0} (test : X → Bool) (xs : List X) (d : X) : Type 0 where
  found : (k : ℕ) → k < length xs → test (get_or xs k d) ≡ true → ((j : ℕ) → j < k → test (get_or xs j d) ≡ false) → Search test xs d
  missing : list_any test xs ≡ false → Search test xs d

search_from : {X : Type 0} (test : X → Bool) (x : X) (xs : List X) (d : X) → Search test xs d → test x ≡ false → Search test (x ∷ xs) d
search_from test x xs d (found k h e before) not_first =
    found (suc k) (omega arith) e (λ j. no_before j)
  where
    no_before : (j : ℕ) → j < suc k → test (get_or (x ∷ xs) j d) ≡ false
    no_before zero h = not_first
    no_before (suc j) h = before j (omega arith)
search_from test x xs d (missing none) not_first = missing (rw not_first none)

searched : {X : Type 0} (test : X → Bool) (xs : List X) (d : X) → Search test xs d
searched test [] d = missing refl
searched test (x ∷ xs) d = by_first (searched test xs d) (test x) refl
  where
    nothing_before : (j : ℕ) → j < 0 → test (get_or (x ∷ xs) j d) ≡ false
    nothing_before j h = absurd (omega arith)

    by_first : Search test xs d → (b : Bool) → test x ≡ b → Search test (x ∷ xs) d
    by_first rest true e = found 0 (omega arith) e nothing_before
    by_first rest false e = search_from test x xs d rest e

find-missing : {X : Type 0} (test : X → Bool) (xs : List X) → list_any test xs ≡ false → find test xs ≡ None
find-missing test [] e = refl
find-missing test (x ∷ xs) e = by_first (find-missing test xs) (test x) refl
  where
    by_first : (list_any test xs ≡ false → find test xs ≡ None) → (b : Bool) → test x ≡ b → find test (x ∷ xs) ≡ None
    by_first rest true f = absurd (false≢true (sym e ∙ ap (λ t. t || list_any test xs) f))
    by_first rest false f = rw f (rest (sym (ap (λ t. t || list_any test xs) f) ∙ e))

-- a name that is a code point
abbrev pub is_code : List ℕ → Bool
is_code name = starts_with nat_eq name (codes "U+") || starts_with nat_eq name (codes "+U+")

unfoldable pub no_codes : List Symbol → Bool
no_codes rows = list_all (λ s. not (is_code s.name)) rows

symbols-no_codes : no_codes symbols ≡ true
unfolding no_codes symbols
symbols-no_codes = refl

unlisted_code : (rows : List Symbol) (name : List ℕ) → list_all (λ s. not (is_code s.name)) rows ≡ true → is_code name ≡ true → find (λ s. bytes_eq s.name name) rows ≡ None
unlisted_code [] name e code = refl
unlisted_code (s ∷ rows) name e code =
    let parts = and_parts (not (is_code s.name)) (list_all (λ s. not (is_code s.name)) rows) e in
    by_first parts.0 (unlisted_code rows name parts.1 code) (bytes_eq s.name name) refl
  where
    by_first : not (is_code s.name) ≡ true → find (λ s. bytes_eq s.name name) rows ≡ None → (b : Bool) → bytes_eq s.name name ≡ b → find (λ s. bytes_eq s.name name) (s ∷ rows) ≡ None
    by_first first rest true same = absurd (false≢true (sym (not-true (is_code s.name) first) ∙ ap is_code ((bytes_eq-Decides s.name name).0 same) ∙ code))
    by_first first rest false other = rw other rest

code_listed_action : (name : List ℕ) → is_code name ≡ true → listed_action symbols name ≡ None
unfolding no_codes
code_listed_action name code = ap (option_map (λ (s : Symbol). s.act)) (unlisted_code symbols name symbols-no_codes code)

code_symbol : (name : List ℕ) → is_code name ≡ true → symbol name ≡ unlisted_action name
unfolding symbol
code_symbol name code = ap (λ x. option_or x (unlisted_action name)) (code_listed_action name code)

-- a hexadecimal digit is read back
digit_back : (d : ℕ) → d < 16 → digit_in 16 (hex_digit d) ≡ Some d
digit_back d h = elim (cases_lt d 10) [
  | inl low ↦ rw (lt-ltb d 10 low) (low_digit d low)
  | inr high ↦ rw (le-ltb d 10 high) (high_digit d high h)
]
  where
    low_digit : (d : ℕ) → d < 10 → digit_in 16 (0x30 + d) ≡ Some d
    low_digit d h = grind (arith, nat_tests)

    high_digit : (d : ℕ) → 10 ≤ d → d < 16 → digit_in 16 (0x37 + d) ≡ Some d
    high_digit d h k = grind (arith, nat_tests)

four_back : (a b c d : ℕ) → a < 16 → b < 16 → c < 16 → d < 16 → number_in_base 16 (hex_digit a ∷ hex_digit b ∷ hex_digit c ∷ hex_digit d ∷ []) ≡ Some ((((0 + a) * 16 + b) * 16 + c) * 16 + d)
four_back a b c d ha hb hc hd = rw (digit_back a ha, digit_back b hb, digit_back c hc, digit_back d hd) refl

pub hex4_back : (n : ℕ) → n < 65536 → number_in_base 16 (hex4 n) ≡ Some n
hex4_back n h =
    four_back (n / 4096 % 16) (n / 256 % 16) (n / 16 % 16) (n % 16) (omega arith) (omega arith) (omega arith) (omega arith)
    ∙ ap Some (digits n h)
  where
    digits : (n : ℕ) → n < 65536 → (((0 + n / 4096 % 16) * 16 + n / 256 % 16) * 16 + n / 16 % 16) * 16 + n % 16 ≡ n
    digits n h = omega arith

is_small : (n : ℕ) → is_character n ≡ true → n < 65536
is_small n e = omega (arith, leb-true n 65535 (and_parts (leb n 65535) _ e).0)

code_point_back : (n : ℕ) → is_character n ≡ true → code_point (codes "U+" ++ hex4 n) ≡ Some n
code_point_back n e =
    ap (option_and_then (number_if is_character)) (hex4_back n (is_small n e))
    ∙ ap (λ t. cond t (Some n) None) e

pub code_points_are_their_own : CodePointsAreTheirOwn
code_points_are_their_own n e =
    code_symbol (codes "U+" ++ hex4 n) refl
    ∙ ap (λ x. option_map (act 1) (option_or x (small_number (codes "U+" ++ hex4 n)))) (code_point_back n e)

letter_back : (n : ℕ) → is_character n ≡ true → symbol (codes "+U+" ++ hex4 n) ≡ Some (act 2 n)
letter_back n e =
    code_symbol (codes "+U+" ++ hex4 n) refl
    ∙ ap (option_map (act 2)) (code_point_back n e)

code_name_back : (a : Act) → ((a.kind ≡ 1) ⊎ (a.kind ≡ 2)) → is_character a.value ≡ true → symbol (code_name a) ≡ Some a
code_name_back a (inl character) e =
    subst (λ (k : ℕ). symbol (code_name (act k a.value)) ≡ Some (act k a.value)) (sym character) (code_points_are_their_own a.value e)
code_name_back a (inr letter) e =
    subst (λ (k : ℕ). symbol (code_name (act k a.value)) ≡ Some (act k a.value)) (sym letter) (letter_back a.value e)

-- an action that a row has
found_back : (a : Act) (k : ℕ) → k < length symbols → same_act (row_at k).act a ≡ true → ((j : ℕ) → j < k → same_act (row_at j).act a ≡ false) → symbol (name_text a) ≡ Some a
unfolding name_text symbol
found_back a k h same before =
    let test : Symbol → Bool = λ s. same_act s.act a in
    let place : k < NAME_COUNT = subst (λ (n : ℕ). k < n) length-symbols h in
    let name : first_name symbols a ≡ Some (row_at k).name = ap (option_map (λ (s : Symbol). s.name)) (find_at test symbols no_symbol k h same before) in
    let back : listed_action symbols (row_at k).name ≡ Some a =
    listed_action_found (row_at k).name k place (row_name k place) ∙ ap Some (sym (row k place).action ∙ same_act-true _ _ same) in
    ap (λ x. symbol (unwrap_or x (code_name a))) name
    ∙ ap (λ x. option_or x (unlisted_action (row_at k).name)) back

-- an action that no row has
missing_back : (a : Act) → is_action a.kind a.value ≡ true → list_any (λ s. same_act s.act a) symbols ≡ false → symbol (name_text a) ≡ Some a
unfolding name_text is_named
missing_back a e none =
    ap (λ x. symbol (unwrap_or (option_map (λ (s : Symbol). s.name) x) (code_name a))) (find-missing (λ s. same_act s.act a) symbols none)
    ∙ elim (named_or_character a.kind a.value e) [
      | inl named ↦ absurd (false≢true (sym none ∙ named))
      | inr character ↦ code_name_back a character.0 character.1
    ]

pub names_are_their_own : NamesAreTheirOwn
names_are_their_own a e = by_search (searched (λ s. same_act s.act a) symbols no_symbol)
  where
    by_search : Search (λ s. same_act s.act a) symbols no_symbol → symbol (name_text a) ≡ Some a
    by_search (found k h same before) = found_back a k h same before
    by_search (missing none) = missing_back a e none
