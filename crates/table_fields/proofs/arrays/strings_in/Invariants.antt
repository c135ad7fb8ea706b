use Rattle.std.proofs.Common.{◌≡◌, ◌+◌, drop, map, ok_or}
use Rattle.toml.specs.Data.{as_str}
use Rattle.toml.specs.View.{view}
use Rattle.table_fields.specs.Arrays.{of_kind}
use Rattle.table_fields.specs.Checked.{collect, fault}
use Rattle.table_fields.specs.Collecting.{found_before}
use Rattle.table_fields.proofs.arrays.strings_in.Given as goal

abbrev pub invariant-loop-i : goal.invariant-loop-i
invariant-loop-i l =
    found_before (map (λ s. s.now) l.found.items)
    (collect (λ n d. ok_or (as_str d) (fault 22 l.part l.key)) (l.i + 1) (map view (drop l.i l.values)))
    ≡ of_kind as_str (fault 22 l.part l.key) (map view l.values)
