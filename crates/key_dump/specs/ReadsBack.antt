-- A text that is read as given tables.
use Rattle.std.specs.Prelude.{◌≡◌, ℕ, None, Ok, [], List, IsTrue}
use Rattle.key_compile.specs.Compiled.{AreTablesOf}
use Rattle.key_compile.specs.Dumpable.{is_dumpable}
use Rattle.key_compile.specs.Faults.{compile_fault}
use Rattle.key_tables.specs.Tables.{IsWhole, Tables}
use Rattle.key_text.specs.Reading.{lines_of}
use Rattle.key_text.specs.KeymapLine.{KeymapLine}
use Rattle.key_dump.specs.Dump.{dump_of}

-- the text, with no includes, is read as lines without a fault, and these are their tables
pub record ReadsAs (text : List ℕ) (tables : Tables) : Type 0 where
  pub lines : List KeymapLine
  pub read : lines_of [] text ≡ Ok lines
  pub fine : compile_fault lines ≡ None
  pub compiled : AreTablesOf lines tables

-- the dump of tables is read as these tables
abbrev pub DumpReadsBack : Type 0
DumpReadsBack =
    (tables : Tables) → IsWhole tables → IsTrue (is_dumpable tables)
    → ReadsAs (dump_of tables) tables
