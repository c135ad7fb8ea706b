-- The values of an array as its elements.
use Rattle.std.proofs.Common.{◌≡◌, suc, List, [], ◌∷◌, length, map, refl, ap}
use Rattle.toml.specs.View.{items_view, view}
use Rattle.toml.specs.declared.value.Value.{Value}
use Rattle.table_fields.specs.Arrays.{values_of}

pub values_view : (vs : List Value) → values_of (items_view vs) ≡ map view vs
values_view [] = refl
values_view (v ∷ vs) = ap (λ ds. view v ∷ ds) (values_view vs)

pub values_length : (vs : List Value) → length (values_of (items_view vs)) ≡ length vs
values_length [] = refl
values_length (v ∷ vs) = ap suc (values_length vs)
