-- The string of a function key as C gets it.
use Rattle.std.specs.Prelude.{◌≡◌, ℕ, Bool, true, false, List, Option, Some, None, nat_le}
use Rattle.key_tables.specs.Tables.{func_of}
use Rattle.c_calls.specs.Codes.{NOTHING, RANGE}
use Rattle.c_calls.specs.Text.{Hands, Room}
use Rattle.keys_c.specs.KeyboardView.{KeyboardView}

-- there is a keyboard, and there may be such a function key
abbrev pub HandsKey : Bool → List ℕ → ℕ → Room → Room → Type 0
HandsKey true string code old new = Hands string code old new
HandsKey false string code old new = (code ≡ RANGE) × (new ≡ old)

abbrev pub HandsString : Option KeyboardView → ℕ → ℕ → Room → Room → Type 0
HandsString None number code old new = (code ≡ NOTHING) × (new ≡ old)
HandsString (Some k) number code old new =
    HandsKey (nat_le number 255) (func_of k.tables number) code old new
