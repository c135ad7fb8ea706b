use Rattle.std.proofs.Common.{◌≡◌, ◌+◌, drop, map, ok_or}
use Rattle.toml.specs.Data.{as_integer}
use Rattle.toml.specs.View.{view}
use Rattle.table_fields.specs.Arrays.{of_kind}
use Rattle.table_fields.specs.Checked.{collect, fault}
use Rattle.table_fields.specs.Collecting.{found_before}
use Rattle.table_fields.proofs.arrays.integers_in.Given as goal

abbrev pub invariant-loop-value : goal.invariant-loop-value
invariant-loop-value l =
    found_before l.found.items
    (collect (λ n d. ok_or (as_integer d) (fault 22 l.part l.key)) (l.value-index + 1) (map view (drop l.value-index l.values)))
    ≡ of_kind as_integer (fault 22 l.part l.key) (map view l.values)
