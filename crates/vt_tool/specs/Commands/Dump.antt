-- The outcome of `dumpkeys`: docs/reference/keys.md, "The dump".
use Rattle.std.specs.Prelude.{◌≡◌, ℕ, List, [], None, Ok}
use Rattle.key_compile.specs.Compiled.{AreTablesOf}
use Rattle.key_compile.specs.Faults.{compile_fault}
use Rattle.key_dump.specs.Dump.{dump_of}
use Rattle.key_dump.specs.ReadsBack.{ReadsAs}
use Rattle.key_tables.specs.Tables.{Tables}
use Rattle.key_text.specs.Reading.{lines_of}
use Rattle.key_text.specs.KeymapLine.{KeymapLine}
use Rattle.vt_tool.specs.Outcome.{Outcome, fine_text}

-- the dump of the tables of a keymap text, which is read as these tables again; no text is included
pub record GivesDump (input : List ℕ) (outcome : Outcome) : Type 0 where
  pub lines : List KeymapLine
  pub tables : Tables
  pub read : lines_of [] input ≡ Ok lines
  pub fine : compile_fault lines ≡ None
  pub compiled : AreTablesOf lines tables
  pub dumped : outcome ≡ fine_text (dump_of tables)
  pub back : ReadsAs outcome.text tables
