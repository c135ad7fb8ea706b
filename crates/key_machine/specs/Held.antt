-- The keys that are down as the code has them. No public clause names this.
use Rattle.std.specs.Prelude.{◌≡◌, ◌<◌, ℕ, ◌+◌, ◌/◌, ◌%◌, Bool, false, ◌==◌, ◌&&◌, not, nat_lt, filter, Option, Some, None, List, [], ◌∷◌, count_by, if◌then◌else◌, length, slice_index}
use Rattle.key_machine.specs.Keys.{Down, down_as, is_modifier}
use Rattle.key_syms.specs.Act.{Act}
use Rattle.key_syms.specs.Kinds.{MODIFIER}

-- the keys down, if the first entry is that of place n: a keyboard has 256 places, by keycodes
abbrev pub downs_from : ℕ → List (Option Act) → List Down
downs_from n [] = []
downs_from n (None ∷ entries) = downs_from (n + 1) entries
downs_from n (Some a ∷ entries) = down_as (n / 256) (n % 256) a ∷ downs_from (n + 1) entries

unfoldable pub downs : List (Option Act) → List Down
downs entries = downs_from 0 entries

-- a key that stays when the keys of a keyboard below keycode n are released
abbrev pub stays : ℕ → ℕ → Down → Bool
stays from n d = not (d.from == from && nat_lt d.code n)

abbrev pub left_to : ℕ → ℕ → List Down → List Down
left_to from n down = filter (stays from n) down

-- the entry is this modifier
abbrev pub holds_modifier : ℕ → Option Act → Bool
holds_modifier v None = false
holds_modifier v (Some a) = is_modifier v a

-- the counts are those of the entries
pub record IsCounted (entries : List (Option Act)) (counts : List ℕ) : Type 0 where
  pub all : length entries ≡ 1024
  pub eight : length counts ≡ 8
  pub each : (v : ℕ) → v < 8 → slice_index counts v ≡ count_by (holds_modifier v) entries

-- the modifier that an action is, if it is one
abbrev pub modifier_of : Act → Option ℕ
modifier_of a = if a.kind == MODIFIER then Some a.value else None
