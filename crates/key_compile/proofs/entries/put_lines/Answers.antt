use Rattle.std.proofs.Common.{◌+◌, ◌∙◌, ap, take}
use Rattle.std.specs.Option.{option_or}
use Rattle.key_text.specs.KeymapLine.{KeymapLine}
use Rattle.key_compile.specs.Entries.{last_action, gives}
use Rattle.key_compile.proofs.Steps.{decided_next, puts_next}
use Rattle.key_compile.proofs.entries.put_lines.Goals as goal

pub loop-i-preserved : goal.loop-i-preserved
loop-i-preserved c =
    let union = c.args.union.now in
    let before = last_action union (take c.loop-i.i c.args.lines.now) in
    puts_next before (gives union c.index-lines-i.result.meaning) (last_action union (take (c.loop-i.i + 1) c.args.lines.now)) c.args.tables.now c.loop-i.tables c.put_line.new.tables
    (λ t d. ap (λ (l : KeymapLine). option_or (gives union l.meaning t d) (before t d)) c.index-lines-i.is ∙ decided_next union c.args.lines.now c.loop-i.i c.index-lines-i.result c.loop-i-test.true t d)
    c.loop-i.invariant c.put_line.ensures
