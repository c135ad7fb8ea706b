use Rattle.std.proofs.Common.{◌≡◌, ◌+◌, ◌≤◌, drop, length, map}
use Rattle.std.specs.List.{All}
use Rattle.table_fields.specs.Checked.{collect}
use Rattle.table_fields.specs.Collecting.{found_before}
use Rattle.table_fields.specs.Fields.{bytes_of, most_scan_bytes}
use Rattle.session_text.proofs.further.all_bytes.Given as goal

abbrev pub invariant-loop-i : goal.invariant-loop-i
invariant-loop-i l =
    (length l.found.items ≡ l.i)
    × All (λ keys. keys.room ≡ 0) l.found.items
    × All (λ keys. length keys.bytes ≤ most_scan_bytes) l.found.items
    × (found_before (map (λ keys. keys.bytes) l.found.items)
    (collect (bytes_of 30) (l.i + 1) (map (λ items. map (λ item. item.now) items.items) (drop l.i l.texts)))
    ≡ collect (bytes_of 30) 1 (map (λ items. map (λ item. item.now) items.items) l.texts))
