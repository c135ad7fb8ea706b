use Rattle.std.proofs.Common.{◌≡◌, ◌+◌, ◌≤◌, drop, length, map}
use Rattle.std.specs.List.{All}
use Rattle.table_fields.specs.Checked.{collect}
use Rattle.table_fields.specs.Collecting.{found_before}
use Rattle.table_fields.specs.Fields.{few_items_of, most_scan_bytes}
use Rattle.session_text.proofs.further.all_items.Given as goal

abbrev pub invariant-loop-text : goal.invariant-loop-text
invariant-loop-text l =
    (length l.found.items ≡ l.text-index)
    × All (λ items. length items.items ≤ most_scan_bytes) l.found.items
    × (found_before (map (λ items. map (λ item. item.now) items.items) l.found.items)
    (collect (λ k text. few_items_of 0 12 text) (l.text-index + 1) (map (λ text. text.now) (drop l.text-index l.texts)))
    ≡ collect (λ k text. few_items_of 0 12 text) 1 (map (λ text. text.now) l.texts))
