-- Maps of holes, table by table.
use Rattle.std.proofs.Common.{◌≡◌, ℕ, zero, suc, ◌+◌, ◌<◌, ◌≤◌, Bool, true, false, ◌==◌, cond, Option, Some, None, is_some, List, [], ◌∷◌, ◌++◌, length, get_or, replicate, All, IsTrue, refl, sym, ap, ◌∙◌, subst, inl, inr, ◌⊎◌, arith, rules}
use Rattle.std.proofs.lemmas.Bool.{cases_lt}
use Rattle.std.proofs.lemmas.Bool.Decides.{eqb_tells}
use Rattle.std.proofs.lemmas.List.{get_or-replicate, get_or_append_left, get_or_past, get_or_push, length-replicate, length_push}
use Rattle.std.proofs.lemmas.List.Elements.{All-push, All-replicate}
use Rattle.std.proofs.lemmas.Option.{none-some, same_Some}
use Rattle.std.specs.List.{list_any, slice_index_or}
use Rattle.std.specs.Option.{option_map}
use Rattle.key_syms.specs.Act.{Act, is_action}
use Rattle.key_syms.specs.declared.pair.Pair.{Pair}
use Rattle.key_tables.specs.Kept.{AreKept}
use Rattle.key_tables.specs.Tables.{AreHoles, AreMaps, IsEmpty, IsMap, IsWhole, hole, tables_of}

holes_at : (c : ℕ) → slice_index_or (replicate 256 hole) c hole ≡ hole
holes_at c = elim (cases_lt c 256) [
  | inl lt ↦ get_or-replicate 256 c hole hole lt
  | inr ge ↦ get_or_past (replicate 256 hole) c hole (subst (λ (n : ℕ). n ≤ c) (sym (length-replicate 256 hole)) ge)
]

pub are_map : IsMap (replicate 256 hole)
are_map = record {
  full = length-replicate 256 hole;
  no_key = holes_at 0;
  known = All-replicate (λ (a : Act). IsTrue (is_action a.kind a.value)) 256 hole refl;
}

pub holes_are_map : (map : List Act) → map ≡ replicate 256 hole → IsMap map
holes_are_map map e = subst (λ (m : List Act). IsMap m) (sym e) are_map

-- the first n numbers have places where they are declared, and what is kept are tables of holes
pub record AreBegun (declared : List ℕ) (places : List (Option ℕ)) (kept : List (List Act)) (n : ℕ) : Type 0 where
  pub tall : length places ≡ n
  pub few : length kept ≤ n
  pub holes : All (λ map. map ≡ replicate 256 hole) kept
  pub named : (t : ℕ) → t < n → is_some (slice_index_or places t None) ≡ list_any (λ d. d == t) declared
  pub within : (t p : ℕ) → slice_index_or places t None ≡ Some p → p < length kept
  pub own : (t u p : ℕ) → slice_index_or places t None ≡ Some p → slice_index_or places u None ≡ Some p → t ≡ u

-- a place behind others is one of them or the last
place_in : (places : List (Option ℕ)) (x : Option ℕ) (t p : ℕ) → slice_index_or (places ++ x ∷ []) t None ≡ Some p → (slice_index_or places t None ≡ Some p) ⊎ ((t ≡ length places) × (x ≡ Some p))
place_in [] x zero p h = inr (refl, h)
place_in [] x (suc t) p h = absurd (none-some _ h)
place_in (y ∷ ys) x zero p h = inl h
place_in (y ∷ ys) x (suc t) p h = elim (place_in ys x t p h) [
  | inl before ↦ inl before
  | inr last ↦ inr (ap suc last.0, last.1)
]

-- a number more: it gets no place
begun_without : (declared : List ℕ) (places : List (Option ℕ)) (kept : List (List Act)) (n : ℕ) → AreBegun declared places kept n → list_any (λ d. d == n) declared ≡ false → AreBegun declared (places ++ None ∷ []) kept (n + 1)
begun_without declared places kept n is absent = record {
  tall = length_push places None ∙ ap (λ m. m + 1) is.tall;
  few = let few = is.few in omega arith;
  holes = is.holes;
  named = λ t h. elim (cases_lt t n) [
    | inl low ↦ ap is_some (get_or_append_left places (None ∷ []) None t (let tall = is.tall in omega arith)) ∙ is.named t low
    | inr high ↦
        let e : t ≡ n = omega arith in
        grind (arith, is_some, get_or_push)
  ];
  within = search (rules, place_in, none-some);
  own = search (rules, place_in, none-some);
}

-- or that of a further table
begun_with : (declared : List ℕ) (places : List (Option ℕ)) (kept : List (List Act)) (n : ℕ) → AreBegun declared places kept n → list_any (λ d. d == n) declared ≡ true → AreBegun declared (places ++ Some (length kept) ∷ []) (kept ++ replicate 256 hole ∷ []) (n + 1)
begun_with declared places kept n is present = search (rules, length_push, All-push, cases_lt, is_some, get_or_append_left, get_or_push, place_in, same_Some)

pub begun_more : (declared : List ℕ) (places : List (Option ℕ)) (kept : List (List Act)) (n : ℕ) → AreBegun declared places kept n → (exists : Bool) → exists ≡ list_any (λ d. d == n) declared → (place : Option ℕ) → place ≡ cond exists (Some (length kept)) None → (after : List (List Act)) → after ≡ cond exists (kept ++ replicate 256 hole ∷ []) kept → (pushed : List (Option ℕ)) → pushed ≡ places ++ place ∷ [] → AreBegun declared pushed after (n + 1)
begun_more declared places kept n is true test place e after f pushed g =
    subst (λ (xs : List (Option ℕ)). AreBegun declared xs after (n + 1)) (sym (g ∙ ap (λ x. places ++ x ∷ []) e))
    (subst (λ (ms : List (List Act)). AreBegun declared (places ++ Some (length kept) ∷ []) ms (n + 1)) (sym f)
    (begun_with declared places kept n is (sym test)))
begun_more declared places kept n is false test place e after f pushed g =
    subst (λ (xs : List (Option ℕ)). AreBegun declared xs after (n + 1)) (sym (g ∙ ap (λ x. places ++ x ∷ []) e))
    (subst (λ (ms : List (List Act)). AreBegun declared (places ++ None ∷ []) ms (n + 1)) (sym f)
    (begun_without declared places kept n is (sym test)))

pub begun_kept : (declared : List ℕ) (places : List (Option ℕ)) (kept : List (List Act)) → AreBegun declared places kept 256 → AreKept places kept
begun_kept declared places kept is = record {
  tall = is.tall;
  whole = λ k d h. holes_are_map (get_or kept k d) (is.holes k d h);
  within = is.within;
  own = is.own;
}

none_named : (declared : List ℕ) (t : ℕ) → ((i : ℕ) → get_or declared i 0 < 256) → 256 ≤ t → list_any (λ d. d == t) declared ≡ false
none_named [] t bytes h = refl
none_named (d ∷ ds) t bytes h =
    let apart : (d == t) ≡ false = elim (eqb_tells d t) [
      | inl same ↦ absurd (let small : d < 256 = bytes 0 in let e : d ≡ t = same.1 in omega arith)
      | inr other ↦ other.0
    ] in
    let rest : list_any (λ x. x == t) ds ≡ false = none_named ds t (λ i. bytes (suc i)) h in
    rw (apart, rest) refl

start_exists : (b : Bool) → is_some (cond b (Some (replicate 256 hole)) None) ≡ b
start_exists true = refl
start_exists false = refl

exists_as : (declared : List ℕ) (maps : List (Option (List Act))) → AreHoles declared maps → ((i : ℕ) → get_or declared i 0 < 256) → (t : ℕ) → is_some (slice_index_or maps t None) ≡ list_any (λ d. d == t) declared
exists_as declared maps holes bytes t = elim (cases_lt t 256) [
  | inl lt ↦ ap is_some (holes.each t lt) ∙ start_exists (list_any (λ d. d == t) declared)
  | inr ge ↦ ap is_some (get_or_past maps t None (omega (arith, holes.tall))) ∙ sym (none_named declared t bytes ge)
]

hole_or_none : (b : Bool) (c : ℕ) → option_map (λ map. slice_index_or map c hole) (cond b (Some (replicate 256 hole)) None) ≡ cond (is_some (cond b (Some (replicate 256 hole)) None)) (Some hole) None
hole_or_none true c = ap Some (holes_at c)
hole_or_none false c = refl

entries_as : (declared : List ℕ) (maps : List (Option (List Act))) → AreHoles declared maps → (t c : ℕ) → option_map (λ map. slice_index_or map c hole) (slice_index_or maps t None) ≡ cond (is_some (slice_index_or maps t None)) (Some hole) None
entries_as declared maps holes t c = elim (cases_lt t 256) [
  | inl lt ↦ subst (λ (m : Option (List Act)). option_map (λ map. slice_index_or map c hole) m ≡ cond (is_some m) (Some hole) None) (sym (holes.each t lt)) (hole_or_none (list_any (λ d. d == t) declared) c)
  | inr ge ↦ subst (λ (m : Option (List Act)). option_map (λ map. slice_index_or map c hole) m ≡ cond (is_some m) (Some hole) None) (sym (get_or_past maps t None (omega (arith, holes.tall)))) refl
]

no_bytes : All (λ b. b < 256) []
no_bytes k d h = absurd (omega arith)

abbrev no_text : List ℕ
no_text = []

no_texts : (i : ℕ) → slice_index_or (replicate 256 no_text) i no_text ≡ no_text
no_texts i = elim (cases_lt i 256) [
  | inl lt ↦ get_or-replicate 256 i no_text no_text lt
  | inr ge ↦ get_or_past (replicate 256 no_text) i no_text (subst (λ (n : ℕ). n ≤ i) (sym (length-replicate 256 no_text)) ge)
]

pub whole_start : (maps : List (Option (List Act))) (funcs : List (List ℕ)) (pairs : List Pair) → AreMaps maps → funcs ≡ replicate 256 [] → pairs ≡ [] → IsWhole (tables_of maps funcs pairs)
whole_start maps funcs pairs are texts none = record {
  tall = are.tall;
  maps = are.each;
  strings = ap length texts ∙ length-replicate 256 no_text;
  short = subst (λ (fs : List (List ℕ)). All (λ text. length text ≤ 255) fs) (sym texts) (All-replicate (λ (text : List ℕ). length text ≤ 255) 256 no_text (omega arith));
  bytes = subst (λ (fs : List (List ℕ)). All (λ text. All (λ b. b < 256) text) fs) (sym texts) (All-replicate (λ (text : List ℕ). All (λ b. b < 256) text) 256 no_text no_bytes);
  few = omega (arith, ap length none);
}

pub empty_start : (declared : List ℕ) (maps : List (Option (List Act))) (funcs : List (List ℕ)) (pairs : List Pair) → AreHoles declared maps → ((i : ℕ) → get_or declared i 0 < 256) → funcs ≡ replicate 256 [] → pairs ≡ [] → IsEmpty declared (tables_of maps funcs pairs)
empty_start declared maps funcs pairs holes bytes texts none = record {
  exists = exists_as declared maps holes bytes;
  entries = entries_as declared maps holes;
  funcs = λ i. ap (λ fs. slice_index_or fs i no_text) texts ∙ no_texts i;
  pairs = none;
}
