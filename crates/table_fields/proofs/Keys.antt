-- The keys and texts of a table.
use Rattle.std.proofs.Common.{◌≡◌, ℕ, Bool, ◌&&◌, List, [], ◌∷◌, String, Global, refl, ap, string_bytes}
use Rattle.std.specs.List.{list_all}
use Rattle.std.specs.Map.{keys_of}
use Rattle.toml.specs.View.{members_view}
use Rattle.toml.specs.declared.value.Value.{Value}
use Rattle.table_fields.specs.Fields.{keys_pass}

-- every key of the members is one of the keys of the map
pub keys_view : (p : List ℕ → Bool) (es : List (String Global × Value))
    → keys_pass p (members_view es) ≡ list_all (λ k. p (string_bytes k)) (keys_of es)
keys_view p [] = refl
keys_view p (e ∷ es) = ap (λ b. p (string_bytes e.0) && b) (keys_view p es)
