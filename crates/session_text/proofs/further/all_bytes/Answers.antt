use Rattle.std.proofs.Common.{◌≡◌, ◌+◌, ◌≤◌, [], ◌∷◌, rules, length, subst, sym, ap, ◌∙◌}
use Rattle.std.proofs.lemmas.List.{length-append}
use Rattle.std.proofs.lemmas.List.Elements.{All-push}
use Rattle.std.specs.List.{All}
use Rattle.table_fields.specs.Fields.{bytes_of, most_scan_bytes}
use Rattle.session_text.proofs.Collected.{collected_more}
use Rattle.session_text.proofs.further.all_bytes.Goals as goal

pub loop-i-preserved : goal.loop-i-preserved
loop-i-preserved c =
    let (many, room, few, so_far) = c.loop-i.invariant in
    let added = c.in_ok-push.ensures.items in
    let short : length c.in_ok-keys.keys.bytes ≤ most_scan_bytes = search rules in (
      ap length added ∙ length-append c.loop-i.found.items (c.in_ok-keys.keys ∷ []) ∙ ap (λ n. n + 1) many,
      subst (All (λ keys. keys.room ≡ 0)) (sym added)
          (All-push (λ keys. keys.room ≡ 0) c.loop-i.found.items c.in_ok-keys.keys room c.in_ok-keys.ensures.room),
      subst (All (λ keys. length keys.bytes ≤ most_scan_bytes)) (sym added)
          (All-push (λ keys. length keys.bytes ≤ most_scan_bytes) c.loop-i.found.items c.in_ok-keys.keys few short),
      collected_more (bytes_of 30) _ (λ keys. keys.bytes) c.args.texts.now c.index-texts-i.result c.loop-i.i c.loop-i.found.items
          c.push.new.self.items c.in_ok-keys.keys _ c.loop-i-test.true (search rules) added so_far,
    )
