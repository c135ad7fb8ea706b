-- The items of a line: a word, a number, a symbol, a quoted text, a character.
use Rattle.std.specs.Prelude.{ℕ, zero, suc, Bool, ◌==◌, ◌&&◌, cond, nat_le, Option, Some, None, Result, Ok, Err, List, [], ◌∷◌, ◌++◌, length, slice_index_or}
use Rattle.key_syms.specs.Act.{Act, is_character}
use Rattle.key_syms.specs.Names.{symbol}
use Rattle.key_syms.specs.Numbers.{number_of}
use Rattle.key_syms.specs.Kinds.{CHARACTER, FUNCTION}
use Rattle.key_text.specs.Fault.{fault, ◌>>=◌}
use Rattle.key_text.specs.Quoted.{character_of, text_of}
use Rattle.key_text.specs.Words.{bytes, is_quote, is_word, next, place_of_word, whole, word_at}
use Rattle.key_text.specs.declared.fault.KeyFault.{KeyFault}
use Rattle.key_text.specs.FaultKinds.{BAD_TEXT, LEFT_OVER, LONG_STRING, OUT_OF_RANGE, UNKNOWN_SYMBOL, UNKNOWN_WORD, WRONG_COUNT}
use Rattle.key_text.specs.declared.placed.Place.{Place}
use Rattle.key_text.specs.declared.placed.Placed.{Placed}

-- the row ends: no word is left
abbrev pub ended_by : Option (List Placed × List Placed) → Result (Unit {0}) KeyFault
ended_by None = Ok tt
ended_by (Some word) = whole word >>= λ w. Err (fault LEFT_OVER (place_of_word w.0))

unfoldable pub end_of_line : List Placed → Result (Unit {0}) KeyFault
end_of_line items = ended_by (word_at items)

-- this keyword, and the rest of the row
unfoldable pub keyword_at : List ℕ → Place → List Placed → Result (List Placed) KeyFault
keyword_at text end items = do
  w ← next UNKNOWN_WORD end items
  cond (is_word text w.0) (Ok w.1) (Err (fault UNKNOWN_WORD (place_of_word w.0)))

-- a number of a word, within a range
abbrev pub number_in_range : ℕ → ℕ → List Placed → Option ℕ → Result ℕ KeyFault
number_in_range low high word None = Err (fault UNKNOWN_WORD (place_of_word word))
number_in_range low high word (Some n) =
    cond (nat_le low n && nat_le n high) (Ok n) (Err (fault OUT_OF_RANGE (place_of_word word)))

-- a keycode, and the rest of the row
unfoldable pub code_at : Place → List Placed → Result (ℕ × List Placed) KeyFault
code_at end items = do
  w ← next UNKNOWN_WORD end items
  n ← number_in_range 1 255 w.0 (number_of (bytes w.0))
  Ok (n, w.1)

-- the action of a word that is a symbol
abbrev pub symbol_action : List Placed → Option Act → Result Act KeyFault
symbol_action word None = Err (fault UNKNOWN_SYMBOL (place_of_word word))
symbol_action word (Some action) = Ok action

abbrev pub action_of : List Placed → Result Act KeyFault
action_of word = symbol_action word (symbol (bytes word))

-- the first symbol of a key line, and the rest of the row
unfoldable pub symbol_at : Place → List Placed → Result (Act × List Placed) KeyFault
symbol_at end items = do
  w ← next WRONG_COUNT end items
  action ← action_of w.0
  Ok (action, w.1)

-- the symbols up to the row's end, n at most
abbrev pub symbols_after : (List Placed → Result (List Act) KeyFault) → Option (List Placed × List Placed) → Result (List Act) KeyFault
symbols_after rest None = Ok []
symbols_after rest (Some word) =
    whole word >>= λ w. action_of w.0 >>= λ action. rest w.1 >>= λ actions. Ok (action ∷ actions)

abbrev pub symbols_at : ℕ → List Placed → Result (List Act) KeyFault
symbols_at zero items = Ok []
symbols_at (suc n) items = symbols_after (symbols_at n) (word_at items)

-- actions before those that are read
abbrev pub with_actions : List Act → Result (List Act) KeyFault → Result (List Act) KeyFault
with_actions front read = read >>= λ actions. Ok (front ++ actions)

-- the number of a function key, of a word that names it
abbrev pub function_by : List Placed → Act → Result ℕ KeyFault
function_by word action =
    cond (action.kind == FUNCTION) (Ok action.value) (Err (fault UNKNOWN_SYMBOL (place_of_word word)))

unfoldable pub function_at : Place → List Placed → Result (ℕ × List Placed) KeyFault
function_at end items = do
  w ← next UNKNOWN_SYMBOL end items
  action ← action_of w.0
  i ← function_by w.0 action
  Ok (i, w.1)

-- a text that a word must quote, otherwise the fault of the word
abbrev pub good : {X : Type 0} → List Placed → Option X → Result X KeyFault
good word None = Err (fault BAD_TEXT (place_of_word word))
good word (Some x) = Ok x

-- a quoted text, the place of its word, and the rest of the row
unfoldable pub text_at : Place → List Placed → Result (List ℕ × Place × List Placed) KeyFault
text_at end items = do
  w ← next BAD_TEXT end items
  text ← good w.0 (text_of w.0)
  Ok (text, place_of_word w.0, w.1)

-- a string of a function key, which has at most 255 bytes
unfoldable pub string_at : Place → List Placed → Result (List ℕ × List Placed) KeyFault
string_at end items = do
  text ← text_at end items
  cond (nat_le (length text.0) 255) (Ok (text.0, text.2)) (Err (fault LONG_STRING text.1))

-- the word begins with a quote
abbrev pub is_quoted : List Placed → Bool
is_quoted word = is_quote (slice_index_or word 0 (record { byte = 0; line = 0; column = 0 })).byte

-- the code of a word that is a character's symbol
abbrev pub character_by : List Placed → Act → Result ℕ KeyFault
character_by word action =
    cond (action.kind == CHARACTER) (Ok action.value) (Err (fault UNKNOWN_SYMBOL (place_of_word word)))

abbrev pub named_character : List Placed → Result ℕ KeyFault
named_character word = action_of word >>= λ action. character_by word action

-- the code is that of a character
abbrev pub real : List Placed → ℕ → Result ℕ KeyFault
real word code = cond (is_character code) (Ok code) (Err (fault UNKNOWN_SYMBOL (place_of_word word)))

-- the character that a word stands for: quoted, or a symbol
unfoldable pub character_in : List Placed → Result ℕ KeyFault
character_in word =
    cond (is_quoted word) (good word (character_of word)) (named_character word)
    >>= λ code. real word code

unfoldable pub character_at : Place → List Placed → Result (ℕ × List Placed) KeyFault
character_at end items = do
  w ← next UNKNOWN_SYMBOL end items
  code ← character_in w.0
  Ok (code, w.1)
