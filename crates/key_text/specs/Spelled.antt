-- The spellings of rows of words as a text, and the law that they all have the same content (keymaps(5)).
use Rattle.std.specs.Prelude.{◌≡◌, ℕ, Bool, true, false, ◌==◌, ◌&&◌, ◌||◌, not, List, [], ◌∷◌, ◌++◌, IsFalse, IsTrue}
use Rattle.std.specs.List.{list_all}
use Rattle.key_text.specs.Included.{Named}
use Rattle.key_text.specs.Reading.{lines_of}
use Rattle.key_text.specs.Rows.{backslash, carriage_return, line_feed}
use Rattle.key_text.specs.Meanings.{meanings_or_fault}
use Rattle.key_text.specs.Words.{is_bare, is_blank, is_quote}

-- the inside of a quoted text: this quote stands there only after a backslash
pub data Inside (q : ℕ) : List ℕ → Type 0 where
  empty : Inside q []
  plain : (b : ℕ) (bs : List ℕ) → IsFalse (b == q || b == backslash) → Inside q bs → Inside q (b ∷ bs)
  escaped : (b : ℕ) (bs : List ℕ) → Inside q bs → Inside q (backslash ∷ b ∷ bs)

-- the bytes of a word: bytes that don't end it, or a quoted text and the bytes that touch it
pub data IsWord : List ℕ → Type 0 where
  bare : (b : ℕ) (bs : List ℕ) → IsFalse (is_quote b) → IsTrue (list_all is_bare (b ∷ bs)) → IsWord (b ∷ bs)
  quoted : (q : ℕ) (inside tail : List ℕ) → IsTrue (is_quote q) → Inside q inside → IsTrue (list_all is_bare tail) → IsWord (q ∷ inside ++ q ∷ tail)

-- a comment
abbrev pub is_comment : List ℕ → Bool
is_comment [] = false
is_comment (b ∷ bs) = b == 0x21 || b == 0x23

-- the bytes that may stand after a word: none, or a blank or a comment first
abbrev pub is_apart : List ℕ → Bool
is_apart [] = true
is_apart (b ∷ bs) = not (is_bare b)

-- the bytes of a row of words: blanks and tabs before, between and after them, and a comment
pub data Spaced : List (List ℕ) → List ℕ → Type 0 where
  ended : Spaced [] []
  comment : (bs : List ℕ) → IsTrue (is_comment bs) → Spaced [] bs
  blank : (b : ℕ) (words : List (List ℕ)) (bs : List ℕ) → IsTrue (is_blank b) → Spaced words bs → Spaced words (b ∷ bs)
  word : (w : List ℕ) (words : List (List ℕ)) (bs : List ℕ) → IsWord w → IsTrue (is_apart bs) → Spaced words bs → Spaced (w ∷ words) (w ++ bs)

-- the bytes are one row: no line feed is there, and no backslash or carriage return at the end
abbrev pub is_row : List ℕ → Bool
is_row [] = true
is_row (b ∷ []) = not (b == line_feed || b == carriage_return || b == backslash)
is_row (b ∷ c ∷ bs) = not (b == line_feed) && is_row (c ∷ bs)

-- the same bytes with joins among them
pub data Joined : List ℕ → List ℕ → Type 0 where
  end : Joined [] []
  byte : (b : ℕ) (bs text : List ℕ) → Joined bs text → Joined (b ∷ bs) (b ∷ text)
  join : (bs text : List ℕ) → Joined bs text → Joined bs (backslash ∷ line_feed ∷ text)
  join_crlf : (bs text : List ℕ) → Joined bs text → Joined bs (backslash ∷ carriage_return ∷ line_feed ∷ text)

-- the text of a row of words without its end
pub record IsRowOf (words : List (List ℕ)) (text : List ℕ) : Type 0 where
  pub bytes : List ℕ
  pub spaced : Spaced words bytes
  pub one_row : IsTrue (is_row bytes)
  pub joined : Joined bytes text

-- a line's end: LF or CR LF
pub data IsEnd : List ℕ → Type 0 where
  lf : IsEnd (line_feed ∷ [])
  crlf : IsEnd (carriage_return ∷ line_feed ∷ [])

-- the text spells these rows of words: rows without a word may stand anywhere, and the last row may
-- lack its end
pub data Spells : List (List (List ℕ)) → List ℕ → Type 0 where
  nothing : Spells [] []
  last : (words : List (List ℕ)) (text : List ℕ) → IsRowOf words text → Spells (words ∷ []) text
  last_empty : (text : List ℕ) → IsRowOf [] text → Spells [] text
  row : (words : List (List ℕ)) (rows : List (List (List ℕ))) (text after rest : List ℕ) → IsRowOf words text → IsEnd after → Spells rows rest → Spells (words ∷ rows) (text ++ (after ++ rest))
  row_empty : (rows : List (List (List ℕ))) (text after rest : List ℕ) → IsRowOf [] text → IsEnd after → Spells rows rest → Spells rows (text ++ (after ++ rest))

-- two texts that spell the same rows of words have the same content
abbrev pub SpellingsAgree : Type 0
SpellingsAgree =
    (texts : List Named) (rows : List (List (List ℕ))) (a b : List ℕ)
    → Spells rows a → Spells rows b → meanings_or_fault (lines_of texts a) ≡ meanings_or_fault (lines_of texts b)
