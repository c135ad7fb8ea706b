use Rattle.std.proofs.Common.{◌≡◌, ◌+◌, drop, map, ok_or}
use Rattle.toml.specs.Data.{as_table}
use Rattle.toml.specs.View.{table_view, view}
use Rattle.table_fields.specs.Arrays.{of_kind}
use Rattle.table_fields.specs.Checked.{collect, fault}
use Rattle.table_fields.specs.Collecting.{found_before}
use Rattle.table_fields.proofs.arrays.tables_in.Given as goal

abbrev pub invariant-loop-i : goal.invariant-loop-i
invariant-loop-i l =
    found_before (map (λ t. table_view t.now) l.found.items)
    (collect (λ n d. ok_or (as_table d) (fault 22 l.part l.key)) (l.i + 1) (map view (drop l.i l.values)))
    ≡ of_kind as_table (fault 22 l.part l.key) (map view l.values)
