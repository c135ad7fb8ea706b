use Rattle.std.proofs.Common.{◌≡◌, ◌++◌, take}
use Rattle.std.specs.List.{flat_map}
use Rattle.key_dump.specs.Dump.{row_text, rows_from, table_rows}
use Rattle.key_dump.proofs.dumping.add_tables.Given as goal

abbrev pub invariant-loop-t : goal.invariant-loop-t
invariant-loop-t l = l.text.bytes ≡ l.initial.text.bytes ++ flat_map row_text (rows_from table_rows 0 (take l.t l.tables.maps))
