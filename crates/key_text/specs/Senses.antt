-- Words that are spelled otherwise and mean the same: numbers, and names in another case (keymaps(5)).
use Rattle.std.specs.Prelude.{◌≡◌, ℕ, Bool, false, ◌==◌, ◌||◌, not, None, Some, List, [], ◌∷◌, IsFalse, IsTrue}
use Rattle.std.specs.List.{list_all}
use Rattle.std.specs.Str.{IsAscii, str_eq_ignore_ascii_case}
use Rattle.key_syms.specs.Names.{symbol}
use Rattle.key_syms.specs.Numbers.{is_between, number_of}
use Rattle.key_text.specs.Fields.{is_quoted}
use Rattle.key_text.specs.Included.{Named}
use Rattle.key_text.specs.Lines.{comma, dash}
use Rattle.key_text.specs.Reading.{lines_of, start}
use Rattle.key_text.specs.Rows.{rows_of}
use Rattle.key_text.specs.SameWords.{SameRows, SameWords}
use Rattle.key_text.specs.Meanings.{meanings_or_fault}
use Rattle.key_text.specs.Words.{bytes}
use Rattle.key_text.specs.declared.placed.Placed.{Placed}

-- the word has neither a comma nor a dash, which ranges of tables have
abbrev pub is_single : List ℕ → Bool
is_single text = list_all (λ b. not (b == comma || b == dash)) text

-- the first byte is a digit
abbrev pub begins_digit : List ℕ → Bool
begins_digit [] = false
begins_digit (b ∷ bs) = is_between 0x30 0x39 b

-- the word spells this number, and stands alone
pub record IsNumber (n : ℕ) (v : List Placed) : Type 0 where
  pub number : number_of (bytes v) ≡ Some n
  pub plain : IsAscii (bytes v)
  pub digit : IsTrue (begins_digit (bytes v))
  pub single : IsTrue (is_single (bytes v))

-- the word is a name that is no symbol, as a keyword is
pub record IsName (v : List Placed) : Type 0 where
  pub no_symbol : symbol (bytes v) ≡ None
  pub no_number : number_of (bytes v) ≡ None
  pub plain : IsAscii (bytes v)
  pub unquoted : IsFalse (is_quoted v)
  pub single : IsTrue (is_single (bytes v))

-- two words are the same, or the same number, or the same name except for case
pub data SameSense : List Placed → List Placed → Type 0 where
  same : (v w : List Placed) → bytes v ≡ bytes w → SameSense v w
  number : (n : ℕ) (v w : List Placed) → IsNumber n v → IsNumber n w → SameSense v w
  name : (v w : List Placed) → IsName v → IsName w → IsTrue (str_eq_ignore_ascii_case (bytes v) (bytes w)) → SameSense v w

-- numbers may be octal, decimal or hexadecimal, and keywords of any case
abbrev pub SensesDecide : Type 0
SensesDecide =
    (texts : List Named) (a b : List ℕ)
    → SameRows (SameWords SameSense) (rows_of start a) (rows_of start b)
    → meanings_or_fault (lines_of texts a) ≡ meanings_or_fault (lines_of texts b)
