use Rattle.std.proofs.Common.{◌≡◌, ◌+◌, drop, length, map}
use Rattle.table_fields.specs.Checked.{collect, fault}
use Rattle.table_fields.specs.Fields.{byte_in, byte_of}
use Rattle.table_fields.specs.Collecting.{found_before}
use Rattle.table_fields.proofs.scans.item_bytes.Given as goal

abbrev pub invariant-loop-i : goal.invariant-loop-i
invariant-loop-i l =
    (l.bytes.room + l.i ≡ length l.items)
    × (length l.bytes.bytes ≡ l.i)
    × (found_before l.bytes.bytes (collect (λ n item. byte_in (fault l.kind l.part n) (byte_of item)) (l.i + 1)
    (map (λ item. item.now) (drop l.i l.items)))
    ≡ collect (λ n item. byte_in (fault l.kind l.part n) (byte_of item)) 1
    (map (λ item. item.now) l.items))
