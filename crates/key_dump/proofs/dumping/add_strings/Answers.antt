use Rattle.std.proofs.Common.{◌++◌, ◌∙◌, List, ℕ, [], ap, arith}
use Rattle.std.specs.List.{flat_map}
use Rattle.key_dump.specs.Dump.{row_text, string_rows}
use Rattle.key_dump.proofs.Adding.{rows_all, rows_more}
use Rattle.key_dump.proofs.dumping.add_strings.Goals as goal

pub loop-i-preserved : goal.loop-i-preserved
loop-i-preserved c =
    rows_more row_text string_rows c.args.tables.now.funcs c.loop-i.i [] c.args.text.now.bytes c.loop-i.text.bytes c.add_string.new.text.bytes
    (let strings = c.stays_whole.ensures.strings in omega (arith, strings, c.loop-i-test.true))
    (c.in_ok-add_string.ensures ∙ ap (λ (f : List ℕ). c.loop-i.text.bytes ++ flat_map row_text (string_rows c.loop-i.i f)) c.func.ensures.text) c.loop-i.invariant

pub returns : goal.returns
returns c =
    rows_all row_text string_rows c.args.tables.now.funcs c.loop-i.i c.args.text.now.bytes c.loop-i.text.bytes
    (let strings = c.stays_whole.ensures.strings in omega (arith, strings, c.loop-i-test.false)) c.loop-i.invariant
