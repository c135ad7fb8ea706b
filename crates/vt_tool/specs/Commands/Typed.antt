-- The state of `type` between two scan bytes. No public clause names this.
use Rattle.std.specs.Prelude.{◌≡◌, [], ℕ, List}
use Rattle.key_compile.specs.Compiled.{AreTablesOf}
use Rattle.key_machine.specs.Keys.{Keys, State}
use Rattle.key_tables.specs.Tables.{Tables}
use Rattle.scan_codes.specs.Laws.{events, rest}
use Rattle.scan_codes.specs.Scan.{Scan, scan_of, start_codes}
use Rattle.vt_tool.specs.Commands.Typing.{TypeTable, after_typing, start_typing, make_typing}
use Rattle.vt_tool.specs.declared.commands.typing.type_table.TypeTable.{TypeTable as CodeTable}

-- the table that the code read is this one
abbrev pub IsReadAs : CodeTable → TypeTable → Type 0
IsReadAs code table =
    (code.mode ≡ table.mode) × AreTablesOf table.lines code.tables × (code.keys.bytes ≡ table.keys)

-- a scanner and a keyboard with its state
pub record TypistView : Type 0 where
  pub scanner : Scan
  pub keys : Keys
  pub state : State

-- these scan bytes were typed
pub record HasTyped (tables : Tables) (mode : ℕ) (before : List ℕ) (t : TypistView) : Type 0 where
  pub scanned : t.scanner ≡ scan_of (rest [] before) start_codes
  pub typed :
      make_typing t.keys t.state
      ≡ after_typing tables (start_typing mode) (events start_codes [] before)
