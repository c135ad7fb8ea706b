-- Tables that are found by their places.
use Rattle.std.proofs.Common.{◌≡◌, ◌≢◌, ℕ, zero, suc, ◌<◌, Option, Some, None, IfSome, List, [], ◌∷◌, length, map, get_or, refl, sym, ap, ◌∙◌, subst, inl, inr, arith}
use Rattle.std.proofs.lemmas.Bool.Decides.{eqb_tells}
use Rattle.std.proofs.lemmas.List.{ext_get_or, get_or-set_other, get_or-set_same, get_or_default, length-map, length-set}
use Rattle.std.proofs.lemmas.List.Elements.{All-set}
use Rattle.std.specs.List.{slice_index_or, slice_set}
use Rattle.std.specs.Option.{option_map}
use Rattle.key_syms.specs.Act.{Act}
use Rattle.key_tables.specs.Kept.{AreKept, maps_at}
use Rattle.key_tables.specs.Tables.{AreMaps, IsMap}

-- the table at a place
abbrev pub kept_at : List (List Act) → ℕ → List Act
kept_at kept p = slice_index_or kept p []

pub map_at : (places : List (Option ℕ)) (kept : List (List Act)) (t : ℕ) → slice_index_or (maps_at places kept) t None ≡ option_map (kept_at kept) (slice_index_or places t None)
map_at [] kept t = refl
map_at (x ∷ xs) kept zero = refl
map_at (x ∷ xs) kept (suc t) = map_at xs kept t

map_by : (places : List (Option ℕ)) (kept : List (List Act)) (t : ℕ) (o : Option ℕ) → slice_index_or places t None ≡ o → slice_index_or (maps_at places kept) t None ≡ option_map (kept_at kept) o
map_by places kept t o e = map_at places kept t ∙ ap (option_map (kept_at kept)) e

maps_tall : (places : List (Option ℕ)) (kept : List (List Act)) → length (maps_at places kept) ≡ length places
maps_tall places kept = length-map places (λ place. option_map (kept_at kept) place)

pub kept_maps : (places : List (Option ℕ)) (kept : List (List Act)) → AreKept places kept → AreMaps (maps_at places kept)
kept_maps places kept is = record {
  tall = maps_tall places kept ∙ is.tall;
  each = λ k d h.
      subst (λ (m : Option (List Act)). IfSome m IsMap)
      (sym (get_or_default (maps_at places kept) k d None h ∙ map_at places kept k))
      (by_place k (slice_index_or places k None) refl);
}
  where
    by_place : (k : ℕ) (o : Option ℕ) → slice_index_or places k None ≡ o → IfSome (option_map (kept_at kept) o) IsMap
    by_place k None e = tt
    by_place k (Some p) e = is.whole p [] (is.within k p e)

-- a table is changed at its place, and no other
pub maps_put : (places : List (Option ℕ)) (kept : List (List Act)) → AreKept places kept → (t p : ℕ) → t < 256 → slice_index_or places t None ≡ Some p → (f : List Act → List Act) (x y : List Act) → x ≡ slice_index_or kept p x → y ≡ f x → maps_at places (slice_set kept p y) ≡ slice_set (maps_at places kept) t (option_map f (slice_index_or (maps_at places kept) t None))
maps_put places kept is t p low at f x y read new =
    ext_get_or None (maps_at places (slice_set kept p y)) (slice_set (maps_at places kept) t put)
    (maps_tall places (slice_set kept p y) ∙ sym (length-set (maps_at places kept) t put ∙ maps_tall places kept))
    (λ i h. each i)
  where
    put : Option (List Act)
    put = option_map f (slice_index_or (maps_at places kept) t None)

    there : p < length kept
    there = is.within t p at

    is_x : x ≡ kept_at kept p
    is_x = read ∙ get_or_default kept p x [] there

    put_is : put ≡ Some y
    put_is = ap (option_map f) (map_by places kept t (Some p) at) ∙ ap (λ m. Some (f m)) (sym is_x) ∙ ap Some (sym new)

    wide : t < length (maps_at places kept)
    wide = let tall = is.tall in let e = maps_tall places kept in omega arith

    other : (i : ℕ) → i ≢ t → (o : Option ℕ) → slice_index_or places i None ≡ o → option_map (kept_at (slice_set kept p y)) o ≡ option_map (kept_at kept) o
    other i apart None e = refl
    other i apart (Some q) e = ap Some (get_or-set_other kept p q y [] (λ same. apart (is.own i t p (e ∙ ap Some same) at)))

    each : (i : ℕ) → slice_index_or (maps_at places (slice_set kept p y)) i None ≡ slice_index_or (slice_set (maps_at places kept) t put) i None
    each i = elim (eqb_tells i t) [
      | inl same ↦
          ap (λ j. slice_index_or (maps_at places (slice_set kept p y)) j None) same.1
          ∙ map_by places (slice_set kept p y) t (Some p) at
          ∙ ap Some (get_or-set_same kept p y [] there)
          ∙ sym (ap (λ j. slice_index_or (slice_set (maps_at places kept) t put) j None) same.1 ∙ get_or-set_same (maps_at places kept) t put None wide ∙ put_is)
      | inr apart ↦
          map_at places (slice_set kept p y) i
          ∙ other i apart.1 (slice_index_or places i None) refl
          ∙ sym (get_or-set_other (maps_at places kept) t i put None apart.1 ∙ map_at places kept i)
    ]

-- the tables stay whole, where one is changed into a whole one
pub kept_put : (places : List (Option ℕ)) (kept : List (List Act)) → AreKept places kept → (p : ℕ) (y : List Act) → IsMap y → AreKept places (slice_set kept p y)
kept_put places kept is p y map = record {
  tall = is.tall;
  whole = All-set (λ (m : List Act). IsMap m) kept p y map is.whole;
  within = λ t q e. let low = is.within t q e in let long = length-set kept p y in omega arith;
  own = is.own;
}

-- a place that was read
pub place_read : (places : List (Option ℕ)) (i t : ℕ) (x o : Option ℕ) → length places ≡ 256 → t < 256 → i ≡ t → x ≡ get_or places i x → x ≡ o → slice_index_or places t None ≡ o
place_read places i t x o tall low same read is =
    grind (arith, get_or_default)

-- a table that was read at its place
pub table_read : (places : List (Option ℕ)) (kept : List (List Act)) → AreKept places kept → (t p i : ℕ) (x : List Act) → slice_index_or places t None ≡ Some p → i ≡ p → x ≡ get_or kept i x → Some x ≡ slice_index_or (maps_at places kept) t None
table_read places kept is t p i x at same read =
    ap Some (read ∙ ap (λ j. get_or kept j x) same ∙ get_or_default kept p x [] (is.within t p at))
    ∙ sym (map_by places kept t (Some p) at)
