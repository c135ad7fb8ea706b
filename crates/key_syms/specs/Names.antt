-- The two directions of the symbol table: from a name to its action, and back.
use Rattle.std.specs.Prelude.{ℕ, ◌+◌, ◌/◌, ◌%◌, Bool, ◌==◌, ◌&&◌, nat_lt, nat_eq, cond, Option, None, List, [], ◌∷◌, ◌++◌, length, codes, drop, find, unwrap_or}
use Rattle.std.specs.List.{starts_with}
use Rattle.std.specs.Option.{option_and_then, option_map, option_or}
use Rattle.std.specs.Str.{bytes_eq}
use Rattle.key_syms.specs.Act.{Act, act, is_character}
use Rattle.key_syms.specs.Numbers.{number_of, number_if, number_in_base}
use Rattle.key_syms.specs.Symbols.{Symbol, symbols}
use Rattle.key_syms.specs.Kinds.{CHARACTER, LETTER}

-- the action of the first of these symbols that has the name
abbrev pub listed_action : List Symbol → List ℕ → Option Act
listed_action rows name = option_map (λ row. row.act) (find (λ row. bytes_eq row.name name) rows)

-- the character that `U+` and four hexadecimal digits spell
abbrev pub code_point : List ℕ → Option ℕ
code_point name =
    cond (length name == 6 && starts_with nat_eq name (codes "U+"))
    (option_and_then (number_if is_character) (number_in_base 16 (drop 2 name)))
    None

-- the character that a number below 256 is
abbrev pub small_number : List ℕ → Option ℕ
small_number name = option_and_then (number_if (λ n. nat_lt n 256)) (number_of name)

-- the action of a name that isn't in the table: `+U+xxxx` is a letter, `U+xxxx` and a number are characters
abbrev pub unlisted_action : List ℕ → Option Act
unlisted_action name =
    cond (starts_with nat_eq name (codes "+"))
    (option_map (act LETTER) (code_point (drop 1 name)))
    (option_map (act CHARACTER) (option_or (code_point name) (small_number name)))

-- the action that a name stands for
unfoldable pub symbol : List ℕ → Option Act
symbol name = option_or (listed_action symbols name) (unlisted_action name)

-- two actions are the same
abbrev pub same_act : Act → Act → Bool
same_act a b = a.kind == b.kind && a.value == b.value

-- the name of the first of these symbols that has the action
abbrev pub first_name : List Symbol → Act → Option (List ℕ)
first_name rows a = option_map (λ row. row.name) (find (λ row. same_act row.act a) rows)

-- a digit from 0 to 15, in upper case
abbrev pub hex_digit : ℕ → ℕ
hex_digit d = cond (nat_lt d 10) (0x30 + d) (0x37 + d)

-- four hexadecimal digits
abbrev pub hex4 : ℕ → List ℕ
hex4 n =
    hex_digit (n / 4096 % 16) ∷ hex_digit (n / 256 % 16) ∷ hex_digit (n / 16 % 16)
    ∷ hex_digit (n % 16) ∷ []

-- `U+` and four digits, for a letter with `+` before
abbrev pub code_name : Act → List ℕ
code_name a = cond (a.kind == LETTER) (codes "+U+") (codes "U+") ++ hex4 a.value

-- the first name of an action, or its code point if it has none
unfoldable pub name_text : Act → List ℕ
name_text a = unwrap_or (first_name symbols a) (code_name a)
