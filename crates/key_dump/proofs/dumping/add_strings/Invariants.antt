use Rattle.std.proofs.Common.{◌≡◌, ◌++◌, take}
use Rattle.std.specs.List.{flat_map}
use Rattle.key_dump.specs.Dump.{row_text, rows_from, string_rows}
use Rattle.key_dump.proofs.dumping.add_strings.Given as goal

abbrev pub invariant-loop-i : goal.invariant-loop-i
invariant-loop-i l = l.text.bytes ≡ l.initial.text.bytes ++ flat_map row_text (rows_from string_rows 0 (take l.i l.tables.funcs))
