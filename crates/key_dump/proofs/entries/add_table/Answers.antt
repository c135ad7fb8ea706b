use Rattle.std.proofs.Common.{◌++◌, ◌∙◌, [], Option, ap, sym, arith}
use Rattle.std.specs.List.{flat_map}
use Rattle.std.specs.Option.{option_map_or}
use Rattle.key_syms.specs.Act.{Act}
use Rattle.key_dump.specs.Dump.{entry_rows, row_text}
use Rattle.key_dump.proofs.Adding.{entries_all, entry_more}
use Rattle.key_dump.proofs.entries.add_table.Goals as goal

pub loop-c-preserved : goal.loop-c-preserved
loop-c-preserved c =
    entry_more c.args.tables.now c.args.t c.loop-c.c c.args.text.now.bytes c.loop-c.text.bytes c.add_entry.new.text.bytes c.exists.ensures.whole c.ranges.t.fits
    (sym c.exists.ensures.value ∙ c.if-not-exists.false) c.loop-c-test.true
    (c.in_ok-add_entry.ensures ∙ ap (λ (e : Option Act). c.loop-c.text.bytes ++ option_map_or (λ a. flat_map row_text (entry_rows c.args.t c.loop-c.c a)) e []) c.entry.ensures)
    c.loop-c.invariant

pub returns : goal.returns
returns c =
    entries_all c.args.tables.now c.args.t c.loop-c.c c.args.text.now.bytes c.loop-c.text.bytes c.exists.ensures.whole c.ranges.t.fits
    (sym c.exists.ensures.value ∙ c.if-not-exists.false) (omega arith) c.loop-c.invariant
