-- Rows and texts with the same words, and the law that only the words of a text count.
use Rattle.std.specs.Prelude.{◌≡◌, ℕ, Some, None, List, [], ◌∷◌, IsTrue}
use Rattle.std.specs.Str.{IsAscii, str_eq_ignore_ascii_case}
use Rattle.key_text.specs.Included.{Named}
use Rattle.key_text.specs.Reading.{lines_of, start}
use Rattle.key_text.specs.Rows.{Row, rows_of}
use Rattle.key_text.specs.Meanings.{meanings_or_fault}
use Rattle.key_text.specs.Words.{bytes, word_at}
use Rattle.key_text.specs.declared.placed.Placed.{Placed}

-- two words have the same bytes, wherever they stand
abbrev pub SameBytes : List Placed → List Placed → Type 0
SameBytes v w = bytes v ≡ bytes w

-- two rows have words that are alike: both have none, or their first words are alike and the rests of the
-- rows have words that are alike
pub data SameWords (like : List Placed → List Placed → Type 0) : List Placed → List Placed → Type 0 where
  ended : (i j : List Placed) → word_at i ≡ None → word_at j ≡ None → SameWords like i j
  word : (i j : List Placed) (v w : List Placed × List Placed) → word_at i ≡ Some v → word_at j ≡ Some w → like v.0 w.0 → SameWords like v.1 w.1 → SameWords like i j

-- the rows are alike one by one, without the rows that have no word
pub data SameRows (alike : List Placed → List Placed → Type 0) : List Row → List Row → Type 0 where
  done : SameRows alike [] []
  row : (r s : Row) (rs ss : List Row) → alike r.items s.items → SameRows alike rs ss → SameRows alike (r ∷ rs) (s ∷ ss)
  left : (r : Row) (rs ss : List Row) → word_at r.items ≡ None → SameRows alike rs ss → SameRows alike (r ∷ rs) ss
  right : (s : Row) (rs ss : List Row) → word_at s.items ≡ None → SameRows alike rs ss → SameRows alike rs (s ∷ ss)

-- texts whose rows have the same words have the same content, or the same kind of fault if there is one
abbrev pub WordsDecide : Type 0
WordsDecide =
    (texts : List Named) (a b : List ℕ)
    → SameRows (SameWords SameBytes) (rows_of start a) (rows_of start b)
    → meanings_or_fault (lines_of texts a) ≡ meanings_or_fault (lines_of texts b)

-- two words of ASCII are the same except for case
pub record SameCase (v w : List Placed) : Type 0 where
  pub plain : IsAscii (bytes v)
  pub other : IsAscii (bytes w)
  pub same : IsTrue (str_eq_ignore_ascii_case (bytes v) (bytes w))

-- two rows have the same words except for the case of the first
pub data SameButFirst : List Placed → List Placed → Type 0 where
  words : (i j : List Placed) → SameWords SameBytes i j → SameButFirst i j
  first : (i j : List Placed) (v w : List Placed × List Placed) → word_at i ≡ Some v → word_at j ≡ Some w → SameCase v.0 w.0 → SameWords SameBytes v.1 w.1 → SameButFirst i j

-- the case of the first words of rows changes nothing in the content of a text
abbrev pub FirstWordsFold : Type 0
FirstWordsFold =
    (texts : List Named) (a b : List ℕ)
    → SameRows SameButFirst (rows_of start a) (rows_of start b)
    → meanings_or_fault (lines_of texts a) ≡ meanings_or_fault (lines_of texts b)
