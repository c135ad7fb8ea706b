-- The action in a table of a symbol that stands alone on a key line.
use Rattle.std.specs.Prelude.{ℕ, ◌+◌, ◌-◌, ◌/◌, ◌%◌, Bool, ◌==◌, ◌&&◌, ◌||◌, cond, nat_le}
use Rattle.key_syms.specs.Act.{Act, act}
use Rattle.key_syms.specs.Kinds.{CHARACTER, LETTER, META}
use Rattle.key_tables.specs.Tables.{hole}

-- a character, obeying CapsLock or not
abbrev pub is_character_act : Act → Bool
is_character_act a = a.kind == CHARACTER || a.kind == LETTER

abbrev pub is_upper : ℕ → Bool
is_upper v = nat_le 0x41 v && nat_le v 0x5A

abbrev pub is_lower : ℕ → Bool
is_lower v = nat_le 0x61 v && nat_le v 0x7A

-- an ASCII letter
abbrev pub is_letter : Act → Bool
is_letter a = is_character_act a && (is_upper a.value || is_lower a.value)

-- the letter's other case
abbrev pub other_case : ℕ → ℕ
other_case v = cond (is_upper v) (v + 32) (v - 32)

-- the weights of Shift, Control and Alt are in the table's number
abbrev pub has_shift : ℕ → Bool
has_shift t = t % 2 == 1

abbrev pub has_control : ℕ → Bool
has_control t = t / 4 % 2 == 1

abbrev pub has_alt : ℕ → Bool
has_alt t = t / 8 % 2 == 1

-- the value of a letter in a table below 16: the other case with Shift, the low five bits with Control
abbrev pub value_with_shift : ℕ → ℕ → ℕ
value_with_shift t v = cond (has_shift t) (other_case v) v

abbrev pub value_with_control : ℕ → ℕ → ℕ
value_with_control t v = cond (has_control t) (value_with_shift t v % 32) (value_with_shift t v)

-- a meta with Alt, otherwise a character with Control, otherwise a letter
abbrev pub kind_in : ℕ → ℕ
kind_in t = cond (has_alt t) META (cond (has_control t) CHARACTER LETTER)

-- an ASCII letter by the table, a hole from 16 on; another symbol unchanged
unfoldable pub filled_action : ℕ → Act → Act
filled_action t a =
    cond (is_letter a)
    (cond (nat_le 16 t) hole (act (kind_in t) (value_with_control t a.value))) a
