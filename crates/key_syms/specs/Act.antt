-- The actions of keys.
use Rattle.std.specs.Prelude.{ℕ, Bool, ◌==◌, ◌&&◌, ◌||◌, not, nat_le}
use Rattle.key_syms.specs.Kinds.{ASCII, CHARACTER, CONSOLE, CURSOR, DEAD, FUNCTION, HOLE, LETTER, LOCK, META, MODIFIER, PAD, SPECIAL, STICKY}

-- an action: its kind, and its value in that kind
pub record Act : Type 0 where
  pub kind : ℕ
  pub value : ℕ

-- a surrogate, which is no character: Unicode 3.9, D71 to D73
abbrev pub is_surrogate : ℕ → Bool
is_surrogate code = nat_le 0xD800 code && nat_le code 0xDFFF

-- a character of 16 bits
abbrev pub is_character : ℕ → Bool
is_character code = nat_le code 0xFFFF && not (is_surrogate code)

-- the values of each kind
abbrev pub is_action : ℕ → ℕ → Bool
is_action kind value =
    (kind == HOLE && value == 0)
    || (kind == CHARACTER && is_character value)
    || (kind == LETTER && is_character value)
    || (kind == META && nat_le value 127)
    || (kind == FUNCTION && nat_le value 255)
    || (kind == PAD && nat_le value 16)
    || (kind == CURSOR && nat_le value 3)
    || (kind == DEAD && nat_le value 5)
    || (kind == MODIFIER && nat_le value 7)
    || (kind == LOCK && nat_le value 7)
    || (kind == STICKY && nat_le value 7)
    || (kind == CONSOLE && nat_le 1 value && nat_le value 63)
    || (kind == SPECIAL && nat_le 1 value && nat_le value 19)
    || (kind == ASCII && nat_le value 9)

-- the action of a kind and a value
abbrev pub act : ℕ → ℕ → Act
act kind value = record { kind = kind; value = value }
