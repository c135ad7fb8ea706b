-- Key tables as contracts see them: finite maps from tables and keycodes to actions, function
-- strings, and a list of pairs.
use Rattle.std.specs.Prelude.{◌≡◌, ℕ, ◌<◌, ◌≤◌, Bool, ◌==◌, ◌&&◌, cond, Option, Some, None, is_some, find, List, [], length, replicate, slice_index_or, slice_set, All, IfSome, IsTrue}
use Rattle.std.specs.List.{list_any}
use Rattle.std.specs.Option.{option_map}
use Rattle.key_syms.specs.Act.{Act, act, is_action}
use Rattle.key_syms.specs.Kinds.{HOLE}
use Rattle.key_syms.specs.declared.pair.Pair.{Pair}

-- for each table its entries by keycode, if it exists; the function strings; the pairs in order
pub record Tables : Type 0 where
  pub maps : List (Option (List Act))
  pub funcs : List (List ℕ)
  pub pairs : List Pair

abbrev pub tables_of : List (Option (List Act)) → List (List ℕ) → List Pair → Tables
tables_of maps funcs pairs = record { maps = maps; funcs = funcs; pairs = pairs }

-- the action of a key that does nothing
abbrev pub hole : Act
hole = act HOLE 0

-- the entries of a table, if it exists
abbrev pub map_of : Tables → ℕ → Option (List Act)
map_of tables t = slice_index_or tables.maps t None

-- the table exists
abbrev pub exists_in : Tables → ℕ → Bool
exists_in tables t = is_some (map_of tables t)

-- the action of a keycode in a table, if the table exists
abbrev pub entry_of : Tables → ℕ → ℕ → Option Act
entry_of tables t c = option_map (λ map. slice_index_or map c hole) (map_of tables t)

-- the string of a function key
abbrev pub func_of : Tables → ℕ → List ℕ
func_of tables i = slice_index_or tables.funcs i []

-- the result of the first pair of an accent and a base
abbrev pub found_in : List Pair → ℕ → ℕ → Option ℕ
found_in pairs a b =
    option_map (λ pair. pair.result) (find (λ pair. pair.accent == a && pair.base == b) pairs)

-- entries for 256 codes, each an action; code 0 is no keycode and does nothing
pub record IsMap (map : List Act) : Type 0 where
  pub full : length map ≡ 256
  pub no_key : slice_index_or map 0 hole ≡ hole
  pub known : All (λ a. IsTrue (is_action a.kind a.value)) map

-- there are 256 tables at most and 256 strings, each of 255 bytes at most, and 256 pairs at most
pub record IsWhole (tables : Tables) : Type 0 where
  pub tall : length tables.maps ≡ 256
  pub maps : All (λ map. IfSome map IsMap) tables.maps
  pub strings : length tables.funcs ≡ 256
  pub short : All (λ text. length text ≤ 255) tables.funcs
  pub bytes : All (λ text. All (λ b. b < 256) text) tables.funcs
  pub few : length tables.pairs ≤ 256

-- of 256 tables each one that exists is a map
pub record AreMaps (maps : List (Option (List Act))) : Type 0 where
  pub tall : length maps ≡ 256
  pub each : All (λ map. IfSome map IsMap) maps

-- the declared tables exist, and nothing is set
pub record IsEmpty (declared : List ℕ) (tables : Tables) : Type 0 where
  pub exists :
      (t : ℕ) → exists_in tables t ≡ list_any (λ d. d == t) declared
  pub entries :
      (t c : ℕ) → entry_of tables t c ≡ cond (exists_in tables t) (Some hole) None
  pub funcs : (i : ℕ) → func_of tables i ≡ []
  pub pairs : tables.pairs ≡ []

-- the maps of the tables from 0 to 255: holes for those that are declared
pub record AreHoles (declared : List ℕ) (maps : List (Option (List Act))) : Type 0 where
  pub tall : length maps ≡ 256
  pub each :
      (t : ℕ) → t < 256
      → slice_index_or maps t None
      ≡ cond (list_any (λ d. d == t) declared) (Some (replicate 256 hole)) None

-- one entry is set
abbrev pub with_entry : Tables → ℕ → ℕ → Act → Tables
with_entry tables t c a =
    record tables {
      maps = slice_set tables.maps t (option_map (λ map. slice_set map c a) (map_of tables t));
    }

-- one function string is set
abbrev pub with_func : Tables → ℕ → List ℕ → Tables
with_func tables i text = record tables { funcs = slice_set tables.funcs i text }

-- the pairs are these
abbrev pub with_pairs : Tables → List Pair → Tables
with_pairs tables pairs = record tables { pairs = pairs }
