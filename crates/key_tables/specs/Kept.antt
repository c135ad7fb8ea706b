-- How tables are kept: only the declared ones, and an index from table numbers to their places.
use Rattle.std.specs.Prelude.{◌≡◌, ℕ, ◌<◌, Option, Some, None, List, [], length, map, slice_index_or, All}
use Rattle.std.specs.Option.{option_map}
use Rattle.key_syms.specs.Act.{Act}
use Rattle.key_tables.specs.Tables.{IsMap}

-- the entries of each table, found at its place
abbrev pub maps_at : List (Option ℕ) → List (List Act) → List (Option (List Act))
maps_at places kept = map (λ place. option_map (λ p. slice_index_or kept p []) place) places

-- 256 numbers have a place or none; the kept entries are tables; each place is that of a table, and no two
-- numbers have one place
pub record AreKept (places : List (Option ℕ)) (kept : List (List Act)) : Type 0 where
  pub tall : length places ≡ 256
  pub whole : All (λ map. IsMap map) kept
  pub within : (t p : ℕ) → slice_index_or places t None ≡ Some p → p < length kept
  pub own :
      (t u p : ℕ) → slice_index_or places t None ≡ Some p
      → slice_index_or places u None ≡ Some p → t ≡ u
