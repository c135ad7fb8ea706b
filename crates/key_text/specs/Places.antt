-- The place of the text of a name among the texts.
use Rattle.std.specs.Prelude.{◌≡◌, ℕ, suc, cond, Option, Some, None, List, [], ◌∷◌, slice_index_or}
use Rattle.std.specs.BTreeMap.{BTreeMap, get_by}
use Rattle.std.specs.Cmp.Lexicographic.{slice_cmp}
use Rattle.std.specs.Option.{option_map}
use Rattle.std.specs.Ordering.{nat_cmp}
use Rattle.std.specs.Str.{bytes_eq}
use Rattle.std.specs.declared.vec.Vec.{Vec}
use Rattle.key_text.specs.Included.{Named, make_named}

-- the place of the first text of a name
abbrev pub place_of : List ℕ → List Named → Option ℕ
place_of name [] = None
place_of name (n ∷ ns) = cond (bytes_eq n.name name) (Some 0) (option_map suc (place_of name ns))

-- the text at a place
abbrev pub text_in : List Named → ℕ → List ℕ
text_in texts place = (slice_index_or texts place (make_named [] [])).text

-- the value that an ordered map has for a name
abbrev pub at_name : {A : Type 0} → BTreeMap (Vec ℕ A) ℕ → List ℕ → Option ℕ
at_name places name = get_by (λ key. slice_cmp nat_cmp name key.items) places

-- the map has the place of each name
abbrev pub HasPlaces : {A : Type 0} → BTreeMap (Vec ℕ A) ℕ → List Named → Type 0
HasPlaces places texts = (name : List ℕ) → at_name places name ≡ place_of name texts
