use Rattle.std.proofs.Common.{◌≡◌, ◌++◌, [], take, unwrap_or}
use Rattle.std.specs.List.{flat_map}
use Rattle.key_tables.specs.Tables.{map_of}
use Rattle.key_dump.specs.Dump.{entry_rows, row_text, rows_from}
use Rattle.key_dump.proofs.entries.add_table.Given as goal

abbrev pub invariant-loop-c : goal.invariant-loop-c
invariant-loop-c l = l.text.bytes ≡ l.initial.text.bytes ++ flat_map row_text (rows_from (entry_rows l.t) 0 (take l.c (unwrap_or (map_of l.tables l.t) [])))
