use Rattle.std.proofs.Common.{sym, ◌∙◌, lit<}
use Rattle.std.proofs.lemmas.Iterator.Consumers.{map_from_collect}
use Rattle.std.proofs.lemmas.Iterator.Splits.{YieldsList-from_str_split}
use Rattle.table_fields.proofs.Items.{items_some}
use Rattle.table_fields.proofs.scans.cut_items.Goals as goal

pub returns : goal.returns
returns c =
    let cut =
    map_from_collect _ c.collect.ensures.ran
    (YieldsList-from_str_split 32 c.args.text.now (lit< tt) c.split.ensures.text
    c.split.ensures.has_more c.split.ensures.pattern) in
    let whole = rw c.in_ok-collect.was at cut in
    whole ∙ sym (items_some c.args.text.now (sym c.is_empty.ensures ∙ c.if-is_empty.false))
