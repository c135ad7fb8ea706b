use Rattle.std.proofs.Common.{◌<◌, ◌++◌, ◌∙◌, None, ap, arith, get_or, length}
use Rattle.std.proofs.lemmas.List.{get_or_default}
use Rattle.key_tables.specs.Listing.{map_text}
use Rattle.key_tables.proofs.Texts.{map_told, texts_more}
use Rattle.key_tables.proofs.listing.add_entries.Goals as goal

pub loop-t-preserved : goal.loop-t-preserved
loop-t-preserved c =
    let within : c.loop-t.t < length c.args.maps.now = omega (arith, c.loop-t-test.true, c.requires) in
    let here = get_or c.args.maps.now c.loop-t.t None in
    texts_more map_text c.args.maps.now c.loop-t.t here _ _ _ within (get_or_default c.args.maps.now c.loop-t.t None here within)
    (c.in_ok-add_map.ensures ∙ ap (λ text. c.loop-t.text.bytes ++ text) (map_told c.loop-t.t here c.entries.result.now c.entries.ensures.value)) c.loop-t.invariant
