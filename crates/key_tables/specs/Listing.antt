-- The listing of key tables: a line of the tables that exist, a line for each entry that isn't a
-- hole, for each string that isn't empty and for each pair.
use Rattle.std.specs.Prelude.{ℕ, suc, ◌==◌, cond, Option, Some, None, List, [], ◌∷◌, ◌++◌, codes, decimal}
use Rattle.std.specs.List.{flat_map}
use Rattle.key_syms.specs.Act.{Act}
use Rattle.key_syms.specs.Kinds.{HOLE}
use Rattle.key_syms.specs.declared.pair.Pair.{Pair}
use Rattle.key_tables.specs.Tables.{Tables}
use Rattle.vt_base.specs.Digits.{hex_byte}

-- the texts of the items, each by its index
abbrev pub texts_from : {X : Type 0} → (ℕ → X → List ℕ) → ℕ → List X → List ℕ
texts_from text i [] = []
texts_from text i (x ∷ xs) = text i x ++ texts_from text (suc i) xs

-- a blank and a number
abbrev pub number_text : ℕ → List ℕ
number_text n = 0x20 ∷ decimal n

-- a word and numbers
abbrev pub numbers_line : List ℕ → List ℕ → List ℕ
numbers_line word numbers = word ++ (flat_map number_text numbers ++ 0x0A ∷ [])

-- the number of a table that exists
abbrev pub table_text : ℕ → Option (List Act) → List ℕ
table_text t None = []
table_text t (Some map) = number_text t

-- `map T C K V`, if the entry isn't a hole
abbrev pub entry_text : ℕ → ℕ → Act → List ℕ
entry_text t c a =
    cond (a.kind == HOLE) []
    (numbers_line (codes "map") (t ∷ c ∷ a.kind ∷ a.value ∷ []))

-- the entries of a table that exists, by keycode
abbrev pub map_text : ℕ → Option (List Act) → List ℕ
map_text t None = []
map_text t (Some map) = texts_from (entry_text t) 0 map

-- `func I B`, if the string isn't empty
abbrev pub func_text : ℕ → List ℕ → List ℕ
func_text i [] = []
func_text i (b ∷ bs) =
    codes "func" ++ (number_text i ++ (0x20 ∷ (flat_map hex_byte (b ∷ bs) ++ 0x0A ∷ [])))

-- `pair A B C`
abbrev pub pair_text : Pair → List ℕ
pair_text pair =
    numbers_line (codes "pair") (pair.accent ∷ pair.base ∷ pair.result ∷ [])

-- `maps` and the tables that exist
abbrev pub maps_text : List (Option (List Act)) → List ℕ
maps_text maps = codes "maps" ++ (texts_from table_text 0 maps ++ 0x0A ∷ [])

-- the whole listing
unfoldable pub listing_of : Tables → List ℕ
listing_of tables =
    maps_text tables.maps
    ++ (texts_from map_text 0 tables.maps
    ++ (texts_from func_text 0 tables.funcs ++ flat_map pair_text tables.pairs))
