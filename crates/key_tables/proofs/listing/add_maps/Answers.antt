use Rattle.std.proofs.Common.{◌<◌, ◌++◌, ◌∙◌, None, ap, arith, get_or, length}
use Rattle.std.proofs.lemmas.List.{get_or_default}
use Rattle.key_tables.specs.Listing.{table_text}
use Rattle.key_tables.proofs.Texts.{table_told, texts_more}
use Rattle.key_tables.proofs.listing.add_maps.Goals as goal

pub loop-t-preserved : goal.loop-t-preserved
loop-t-preserved c =
    let within : c.loop-t.t < length c.args.maps.now = omega (arith, c.loop-t-test.true, c.requires) in
    let here = get_or c.args.maps.now c.loop-t.t None in
    texts_more table_text c.args.maps.now c.loop-t.t here _ _ _ within (get_or_default c.args.maps.now c.loop-t.t None here within)
    (c.in_ok-add_table.ensures ∙ ap (λ text. c.loop-t.text.bytes ++ text) (table_told c.loop-t.t here c.exists.result c.exists.ensures.value)) c.loop-t.invariant
