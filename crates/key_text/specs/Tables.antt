-- Sets of tables.
use Rattle.std.specs.Prelude.{◌≡◌, Bool, true, ◌==◌, ◌&&◌, List, length}
use Rattle.std.specs.List.{list_any}

-- the list has 256 entries, one for each table, and one of them at least is true
abbrev pub is_table_set : List Bool → Bool
is_table_set tables = length tables == 256 && list_any (λ has. has) tables

-- for each table from 0 to 255 whether the set has it; the set has at least one
pub record IsTableSet (tables : List Bool) : Type 0 where
  pub full : length tables ≡ 256
  pub some : list_any (λ has. has) tables ≡ true
