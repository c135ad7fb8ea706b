-- The rows of the symbol table by their places.
use Rattle.std.proofs.Common.{◌≡◌, ◌≢◌, ℕ, zero, suc, ◌<◌, ◌≤◌, Bool, true, false, Some, None, List, [], ◌∷◌, length, get_or, refl, sym, ap, ◌∙◌, subst, leb, ltb, IsTrue, arith}
use Rattle.std.proofs.lemmas.Bool.{and_parts, eqb-true, eq-eqb, false_from_ne_true, false≢true, leb-true}
use Rattle.std.proofs.lemmas.List.{get_or-map}
use Rattle.std.proofs.lemmas.Slice.Eq.{bytes_eq-Decides}
use Rattle.std.specs.List.{list_all, slice_index}
use Rattle.std.specs.Option.{option_map}
use Rattle.std.specs.Str.{bytes_eq}
use Rattle.key_syms.specs.Act.{Act, act, is_action}
use Rattle.key_syms.specs.Index.{name_at}
use Rattle.key_syms.specs.Names.{first_name, listed_action, same_act}
use Rattle.key_syms.specs.Symbols.{Symbol, symbols}
use Rattle.key_syms.specs.declared.index.TheConstants.{KINDS, VALUES}
use Rattle.key_syms.specs.declared.table.TheConstants.{NAME_COUNT}
use Rattle.key_syms.proofs.Computed.{acts_are, length-symbols, names, symbols_acts}
use Rattle.key_syms.proofs.Listed.{find_at, find_none}
use Rattle.key_syms.proofs.Places.{name_at-names, names_apart}

abbrev pub no_symbol : Symbol
no_symbol = record { name = []; act = act 0 0 }

abbrev pub row_at : ℕ → Symbol
row_at place = get_or symbols place no_symbol

-- what is known of a row
pub record IsRow (row : Symbol) (kind value : ℕ) : Type 0 where
  pub action : row.act ≡ act kind value
  pub known : is_action kind value ≡ true
  pub short : length row.name ≤ 32
  pub ascii : list_all (λ b. ltb b 128) row.name ≡ true

pub same_act-true : (a b : Act) → same_act a b ≡ true → a ≡ b
same_act-true a b e =
    let parts = and_parts _ _ e in
    let kinds : a.kind ≡ b.kind = eqb-true _ _ parts.0 in
    let values : a.value ≡ b.value = eqb-true _ _ parts.1 in
    ap (λ kind. act kind a.value) kinds ∙ ap (λ value. act b.kind value) values

pub same_act-refl : (a b : Act) → a ≡ b → same_act a b ≡ true
same_act-refl a b e = subst (λ (x : Act). same_act a x ≡ true) e (rw (eq-eqb a.kind a.kind refl, eq-eqb a.value a.value refl) refl)

acts_are_each : (rows : List Symbol) (kinds values : List ℕ) → acts_are rows kinds values ≡ true → (k : ℕ) → k < length rows → IsRow (get_or rows k no_symbol) (get_or kinds k 0) (get_or values k 0)
acts_are_each [] kinds values e k h = absurd (omega arith)
acts_are_each (s ∷ rows) [] values e k h = absurd (false≢true e)
acts_are_each (s ∷ rows) (x ∷ kinds) [] e k h = absurd (false≢true e)
acts_are_each (s ∷ rows) (x ∷ kinds) (v ∷ values) e zero h =
    let first = and_parts (same_act s.act (act x v)) _ e in
    let second = and_parts (is_action x v) _ first.1 in
    let third = and_parts (leb (length s.name) 32) _ second.1 in
    let fourth = and_parts (list_all (λ b. ltb b 128) s.name) _ third.1 in
    record {
      action = same_act-true _ _ first.0;
      known = second.0;
      short = leb-true _ _ third.0;
      ascii = fourth.0;
    }
acts_are_each (s ∷ rows) (x ∷ kinds) (v ∷ values) e (suc k) h =
    let first = and_parts (same_act s.act (act x v)) _ e in
    let second = and_parts (is_action x v) _ first.1 in
    let third = and_parts (leb (length s.name) 32) _ second.1 in
    let fourth = and_parts (list_all (λ b. ltb b 128) s.name) _ third.1 in
    acts_are_each rows kinds values fourth.1 k (fewer k rows h)
  where
    fewer : (k : ℕ) (rows : List Symbol) → suc k < suc (length rows) → k < length rows
    fewer k rows h = omega arith

within : (place : ℕ) → place < NAME_COUNT → place < length symbols
within place h = subst (λ (n : ℕ). place < n) (sym length-symbols) h

pub row : (place : ℕ) → place < NAME_COUNT → IsRow (row_at place) (slice_index KINDS place) (slice_index VALUES place)
row place h = acts_are_each symbols KINDS VALUES symbols_acts place (within place h)

pub row_name : (place : ℕ) → place < NAME_COUNT → name_at place ≡ (row_at place).name
unfolding names
row_name place h = name_at-names place h ∙ get_or-map (λ (s : Symbol). s.name) symbols place no_symbol [] (within place h)

pub act_is_action : (place : ℕ) → place < NAME_COUNT → IsTrue (is_action (slice_index KINDS place) (slice_index VALUES place))
act_is_action place h = (row place h).known

-- a place below has another name
another : (name : List ℕ) (place j : ℕ) → place < NAME_COUNT → name_at place ≡ name → j < place → bytes_eq (row_at j).name name ≡ false
another name place j h e k =
    false_from_ne_true _ (λ same.
    let texts : (row_at j).name ≡ name = (bytes_eq-Decides _ _).0 same in
    let equal : j ≡ place = names_apart j place (omega arith) h (row_name j (omega arith) ∙ texts ∙ sym e) in
    omega arith)

pub listed_action_found : (name : List ℕ) (place : ℕ) → place < NAME_COUNT → name_at place ≡ name → listed_action symbols name ≡ Some (act (slice_index KINDS place) (slice_index VALUES place))
listed_action_found name place h e =
    let test : Symbol → Bool = λ s. bytes_eq s.name name in
    let there : test (row_at place) ≡ true = (bytes_eq-Decides _ _).1 (sym (row_name place h) ∙ e) in
    ap (option_map (λ (s : Symbol). s.act)) (find_at test symbols no_symbol place (within place h) there (λ j k. another name place j h e k))
    ∙ ap Some (row place h).action

pub listed_action_missing : (name : List ℕ) → ((place : ℕ) → place < NAME_COUNT → name_at place ≢ name) → listed_action symbols name ≡ None
listed_action_missing name h =
    let test : Symbol → Bool = λ s. bytes_eq s.name name in
    ap (option_map (λ (s : Symbol). s.act)) (find_none test symbols no_symbol (λ k q.
    let in_table : k < NAME_COUNT = subst (λ (n : ℕ). k < n) length-symbols q in
    false_from_ne_true _ (λ same. h k in_table (row_name k in_table ∙ (bytes_eq-Decides _ _).0 same))))

-- the actions of the places below this one are others
abbrev pub OthersBelow : Act → ℕ → Type 0
OthersBelow a n = (j : ℕ) → j < n → same_act (act (slice_index KINDS j) (slice_index VALUES j)) a ≡ false

other_row : (a : Act) (j : ℕ) → j < NAME_COUNT → same_act (act (slice_index KINDS j) (slice_index VALUES j)) a ≡ false → same_act (row_at j).act a ≡ false
other_row a j h e = subst (λ (x : Act). same_act x a ≡ false) (sym (row j h).action) e

pub first_name_found : (a : Act) (place : ℕ) → place < NAME_COUNT → OthersBelow a place → act (slice_index KINDS place) (slice_index VALUES place) ≡ a → first_name symbols a ≡ Some (name_at place)
first_name_found a place h others e =
    let test : Symbol → Bool = λ s. same_act s.act a in
    let there : test (row_at place) ≡ true = same_act-refl _ _ ((row place h).action ∙ e) in
    ap (option_map (λ (s : Symbol). s.name)) (find_at test symbols no_symbol place (within place h) there (λ j k. other_row a j (omega arith) (others j k)))
    ∙ ap Some (sym (row_name place h))

pub first_name_missing : (a : Act) → OthersBelow a NAME_COUNT → first_name symbols a ≡ None
first_name_missing a others =
    let test : Symbol → Bool = λ s. same_act s.act a in
    ap (option_map (λ (s : Symbol). s.name)) (find_none test symbols no_symbol (λ k q.
    let in_table : k < NAME_COUNT = subst (λ (n : ℕ). k < n) length-symbols q in
    other_row a k in_table (others k in_table)))
