use Rattle.std.proofs.Common.{◌+◌, ◌∙◌, ap, take}
use Rattle.std.specs.Option.{option_or}
use Rattle.key_text.specs.KeymapLine.{KeymapLine}
use Rattle.key_compile.specs.Strings.{last_text, text_by}
use Rattle.key_compile.proofs.Texts.{last_next, texts_join, texts_same}
use Rattle.key_compile.proofs.strings.put_strings.Goals as goal

pub loop-i-preserved : goal.loop-i-preserved
loop-i-preserved c =
    let before = last_text (take c.loop-i.i c.args.lines.now) in
    texts_same (λ j. option_or (text_by c.index-lines-i.result.meaning j) (before j)) (last_text (take (c.loop-i.i + 1) c.args.lines.now)) c.args.tables.now c.put_text.new.tables
    (λ j. ap (λ (l : KeymapLine). option_or (text_by l.meaning j) (before j)) c.index-lines-i.is ∙ last_next c.args.lines.now c.loop-i.i c.index-lines-i.result c.loop-i-test.true j)
    (texts_join before (text_by c.index-lines-i.result.meaning) c.args.tables.now c.loop-i.tables c.put_text.new.tables c.loop-i.invariant c.put_text.ensures)
