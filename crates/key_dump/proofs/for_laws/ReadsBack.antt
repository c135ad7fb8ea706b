-- A dump is read as the tables that it was made of.
use Rattle.std.proofs.Common.{◌≡◌, cond, None, Some, List, sym, ap, ◌∙◌, arith, rules}
use Rattle.key_syms.specs.Laws.{CodePointsAreTheirOwn, NamesAreTheirOwn}
use Rattle.key_tables.specs.Tables.{Tables}
use Rattle.key_text.specs.KeymapLine.{KeymapLine}
use Rattle.key_compile.specs.Compiled.{AreTablesOf}
use Rattle.key_compile.specs.Entries.{entry_in}
use Rattle.key_compile.specs.Faults.{compile_fault}
use Rattle.key_dump.specs.Dump.{dump_rows}
use Rattle.key_dump.specs.ReadsBack.{DumpReadsBack}
use Rattle.key_dump.proofs.for_laws.DumpEntries.{entries_are, pairs_are, strings_are}
use Rattle.key_dump.proofs.for_laws.DumpFaults.{faultless, first_none, is_loud, pairs_few, quiet_first}
use Rattle.key_dump.proofs.for_laws.DumpSays.{dump_say, dump_tellings, string_tellings, table_tellings}
use Rattle.key_dump.proofs.for_laws.DumpTables.{AreDumped, declared_is, strings_any, tables_any}
use Rattle.key_dump.proofs.for_laws.TextRows.{text_read}

fine : (lines : List KeymapLine) (tables : Tables) → AreDumped lines tables → compile_fault lines ≡ None
unfolding compile_fault
fine lines tables are =
    grind (arith, table_tellings, string_tellings, first_none, faultless, quiet_first, tables_any, is_loud, strings_any, pairs_few)

compiled : (lines : List KeymapLine) (tables : Tables) → AreDumped lines tables → AreTablesOf lines tables
compiled lines tables are = record {
  whole = are.whole;
  exist = λ t h. sym (declared_is lines tables t are h);
  entries = λ t c h some small.
      entries_are lines tables t c are h small
      ∙ ap (λ b. cond b (Some (entry_in lines t c)) None) (sym (declared_is lines tables t are h));
  strings = λ i. strings_are lines tables i are;
  pairs = pairs_are lines tables are;
}

pub dump_reads_back : NamesAreTheirOwn → CodePointsAreTheirOwn → DumpReadsBack
dump_reads_back own points tables whole dumpable =
    let read = text_read (dump_rows tables) (dump_tellings tables) (dump_say own points tables whole dumpable) in
    let are : AreDumped read.lines tables = record { tell = read.tell; whole = whole } in
    search (rules, fine, compiled)
