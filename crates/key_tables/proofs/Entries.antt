-- The changes by one entry or string that is set.
use Rattle.std.proofs.Common.{◌≡◌, ◌≢◌, ℕ, ◌<◌, true, ◌==◌, ◌&&◌, cond, Option, Some, None, IfSome, IsTrue, List, length, refl, sym, ap, ◌∙◌, inl, inr, arith}
use Rattle.std.proofs.lemmas.Bool.Decides.{eqb_tells}
use Rattle.std.proofs.lemmas.List.{get_or-set_other, get_or-set_same, length-set}
use Rattle.std.proofs.lemmas.List.Elements.{All-set}
use Rattle.std.specs.List.{slice_index_or, slice_set}
use Rattle.std.specs.Option.{option_map}
use Rattle.key_syms.specs.Act.{Act, is_action}
use Rattle.key_syms.specs.declared.pair.Pair.{Pair}
use Rattle.key_tables.specs.Tables.{IsMap, IsWhole, Tables, entry_of, hole, tables_of}

pub in_map : (map : List Act) (c d : ℕ) (a : Act) → c < length map → slice_index_or (slice_set map c a) d hole ≡ cond (d == c) a (slice_index_or map d hole)
in_map map c d a h = grind (arith, eqb_tells, get_or-set_same, get_or-set_other)

-- a map stays one where an action is put at a keycode
pub put_map : (map : List Act) (c i : ℕ) (a : Act) → i ≡ c → c ≢ 0 → IsTrue (is_action a.kind a.value) → IsMap map → IsMap (slice_set map i a)
put_map map c i a e key known is = record {
  full = length-set map i a ∙ is.full;
  no_key = get_or-set_other map i 0 a hole (λ z. key (sym (z ∙ e))) ∙ is.no_key;
  known = All-set (λ (b : Act). IsTrue (is_action b.kind b.value)) map i a known is.known;
}

in_table : (m : Option (List Act)) (c d : ℕ) (a : Act) → IfSome m IsMap → c < 256 → option_map (λ map. slice_index_or map d hole) (option_map (λ map. slice_set map c a) m) ≡ option_map (λ b. cond (d == c) a b) (option_map (λ map. slice_index_or map d hole) m)
in_table None c d a is h = refl
in_table (Some map) c d a is h = ap Some (in_map map c d a (let full = is.full in omega (arith, full, h)))

same : (e : Option Act) → e ≡ option_map (λ b. b) e
same None = refl
same (Some b) = refl

-- the entries after one is set
pub entry_set : (maps : List (Option (List Act))) (funcs : List (List ℕ)) (pairs : List Pair) (now : Tables) → tables_of maps funcs pairs ≡ now → IsWhole (tables_of maps funcs pairs) → (t c : ℕ) (a : Act) → t < 256 → c < 256 → (after : List (Option (List Act))) → after ≡ slice_set maps t (option_map (λ map. slice_set map c a) (slice_index_or maps t None)) → (u d : ℕ) → entry_of (tables_of after funcs pairs) u d ≡ option_map (λ b. cond (u == t && d == c) a b) (entry_of now u d)
entry_set maps funcs pairs now view whole t c a low_t low_c after new u d =
    ap (λ ms. entry_of (tables_of ms funcs pairs) u d) new
    ∙ by_table
    ∙ ap (λ (k : Tables). option_map (λ b. cond (u == t && d == c) a b) (entry_of k u d)) view
  where
    put : Option (List Act)
    put = option_map (λ map. slice_set map c a) (slice_index_or maps t None)

    within : t < length maps
    within = let tall = whole.tall in omega (arith, tall, low_t)

    same_table : u ≡ t → (u == t) ≡ true → entry_of (tables_of (slice_set maps t put) funcs pairs) u d ≡ option_map (λ b. cond (u == t && d == c) a b) (entry_of (tables_of maps funcs pairs) u d)
    same_table is test =
        ap (λ v. option_map (λ map. slice_index_or map d hole) (slice_index_or (slice_set maps t put) v None)) is
        ∙ ap (option_map (λ map. slice_index_or map d hole)) (get_or-set_same maps t put None within)
        ∙ in_table (slice_index_or maps t None) c d a (whole.maps t None within) low_c
        ∙ ap (λ v. option_map (λ b. cond (d == c) a b) (option_map (λ map. slice_index_or map d hole) (slice_index_or maps v None))) (sym is)
        ∙ ap (λ test. option_map (λ b. cond (test && d == c) a b) (entry_of (tables_of maps funcs pairs) u d)) (sym test)

    by_table : entry_of (tables_of (slice_set maps t put) funcs pairs) u d ≡ option_map (λ b. cond (u == t && d == c) a b) (entry_of (tables_of maps funcs pairs) u d)
    by_table = elim (eqb_tells u t) [
      | inl is ↦ same_table is.1 is.0
      | inr other ↦
          ap (option_map (λ map. slice_index_or map d hole)) (get_or-set_other maps t u put None other.1)
          ∙ same (entry_of (tables_of maps funcs pairs) u d)
          ∙ sym (ap (λ test. option_map (λ b. cond (test && d == c) a b) (entry_of (tables_of maps funcs pairs) u d)) other.0)
    ]
