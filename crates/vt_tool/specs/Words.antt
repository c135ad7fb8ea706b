-- Words and the commands that they spell: docs/reference/program.md, "Words". A call knows a list of commands.
use Rattle.std.specs.Prelude.{ℕ, nat_le, ◌&&◌, List, [], ◌∷◌, Option, Some, None, bytes_eq, decimal, if◌then◌else◌}
use Rattle.std.specs.Str.Parse.{digits_value}
use Rattle.vt_tool.specs.declared.command.Command.{Command}

-- the numbers from low to high
pub record Range : Type 0 where
  pub low : ℕ
  pub high : ℕ

-- this number, if the word spells it and it is in the range; decimal is the digits of a number, without sign
-- or leading zeros
abbrev pub if_spelled : Range → List ℕ → ℕ → Option ℕ
if_spelled range word n =
    if bytes_eq (decimal n) word && (nat_le range.low n && nat_le n range.high) then Some n
    else None

-- the number of the range that the word spells
abbrev pub number_in : Range → List ℕ → Option ℕ
number_in range word = if_spelled range word (digits_value 10 word)

-- the words after a command's name: none, or two numbers
pub data Rest : Type 0 where
  alone : Command → Rest
  with_two : Range → Range → (ℕ → ℕ → Command) → Rest

-- the words of a command: its name, and the rest
pub record Form : Type 0 where
  pub name : List ℕ
  pub rest : Rest

abbrev pub form : List ℕ → Rest → Form
form name rest = record { name = name; rest = rest }

-- the command of no words
abbrev pub if_no_words : Command → List (List ℕ) → Option Command
if_no_words command [] = Some command
if_no_words command (word ∷ words) = None

abbrev pub if_both : (ℕ → ℕ → Command) → Option ℕ → Option ℕ → Option Command
if_both command (Some a) (Some b) = Some (command a b)
if_both command a b = None

-- the command of two words, each a number of its range
abbrev pub if_two_numbers : Range → Range → (ℕ → ℕ → Command) → List (List ℕ) → Option Command
if_two_numbers first second command (a ∷ b ∷ []) =
    if_both command (number_in first a) (number_in second b)
if_two_numbers first second command words = None

-- the command that the words after the name make
abbrev pub command_with : Rest → List (List ℕ) → Option Command
command_with (alone command) words = if_no_words command words
command_with (with_two first second command) words = if_two_numbers first second command words

abbrev pub command_named : List Form → List ℕ → List (List ℕ) → Option Command
command_named [] name words = None
command_named (f ∷ forms) name words =
    if bytes_eq name f.name then command_with f.rest words else command_named forms name words

-- the command that the words spell, if it is one of these
abbrev pub command_of : List Form → List (List ℕ) → Option Command
command_of forms [] = None
command_of forms (name ∷ words) = command_named forms name words
