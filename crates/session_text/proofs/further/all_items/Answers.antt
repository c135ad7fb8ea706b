use Rattle.std.proofs.Common.{◌+◌, ◌≤◌, [], ◌∷◌, length, map, subst, sym, ap, ◌∙◌}
use Rattle.std.proofs.lemmas.List.{length-append}
use Rattle.std.proofs.lemmas.List.Elements.{All-push}
use Rattle.std.specs.List.{All}
use Rattle.table_fields.specs.Fields.{few_items_of, most_scan_bytes}
use Rattle.session_text.proofs.Collected.{collected_more}
use Rattle.session_text.proofs.further.all_items.Goals as goal

pub loop-text-preserved : goal.loop-text-preserved
loop-text-preserved c =
    let (many, few, so_far) = c.loop-text.invariant in
    let added = c.in_ok-push.ensures.items in (
      ap length added ∙ length-append c.loop-text.found.items (c.in_ok-items.items ∷ []) ∙ ap (λ n. n + 1) many,
      subst (All (λ items. length items.items ≤ most_scan_bytes)) (sym added)
          (All-push (λ items. length items.items ≤ most_scan_bytes) c.loop-text.found.items c.in_ok-items.items few c.in_ok-items.ensures.few),
      collected_more (λ k text. few_items_of 0 12 text) (λ text. text.now) (λ items. map (λ item. item.now) items.items)
          c.args.texts.now (record { ref_ptr = (0, 0); now = [] }) c.loop-text.text-index c.loop-text.found.items c.push.new.self.items
          c.in_ok-items.items _ c.loop-text-test.true c.in_ok-items.ensures.items added so_far,
    )
