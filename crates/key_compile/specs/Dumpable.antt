-- The tables that can be written as a keymap text.
use Rattle.std.specs.Prelude.{Bool, ◌&&◌, is_some, IsTrue, List, All}
use Rattle.std.specs.List.{list_all, list_any}
use Rattle.key_tables.specs.Tables.{Tables}
use Rattle.key_text.specs.KeymapLine.{KeymapLine, is_fit, is_real}
use Rattle.key_compile.specs.Compiled.{AreTablesOf}

-- a table exists, and the pairs are of characters
abbrev pub is_dumpable : Tables → Bool
is_dumpable tables = list_any is_some tables.maps && list_all is_real tables.pairs

-- each line is fit, as those that are read are
abbrev pub AreFit : List KeymapLine → Type 0
AreFit lines = All (λ l. IsTrue (is_fit l.meaning)) lines

-- the tables of lines can be written
abbrev pub CompiledAreDumpable : Type 0
CompiledAreDumpable =
    (lines : List KeymapLine) (tables : Tables) → AreFit lines → AreTablesOf lines tables
    → IsTrue (is_dumpable tables)
