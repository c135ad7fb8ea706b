-- The row of a string is read as its line.
use Rattle.std.proofs.Common.{◌≡◌, ℕ, ◌<◌, ◌≤◌, true, leb, Some, Ok, List, [], ◌∷◌, codes, length, refl}
use Rattle.std.proofs.lemmas.Bool.{and_from, le-leb}
use Rattle.std.specs.List.{join_with_byte}
use Rattle.key_syms.specs.Act.{act}
use Rattle.key_syms.specs.Kinds.{FUNCTION}
use Rattle.key_syms.specs.Laws.{NamesAreTheirOwn}
use Rattle.key_syms.specs.Names.{name_text}
use Rattle.key_text.specs.FaultKinds.{BAD_TEXT}
use Rattle.key_text.specs.Fields.{end_of_line, function_at, keyword_at, string_at, text_at}
use Rattle.key_text.specs.Lines.{string_line, means}
use Rattle.key_text.specs.Quoted.{text_of}
use Rattle.key_text.specs.KeymapLine.{string}
use Rattle.key_text.specs.Words.{bytes, next, place_of_word}
use Rattle.key_text.specs.declared.placed.Place.{Place}
use Rattle.key_text.specs.declared.placed.Placed.{Placed}
use Rattle.key_dump.specs.Dump.{quoted_text, string_words}
use Rattle.key_dump.proofs.for_laws.NamedWords.{name_word}
use Rattle.key_dump.proofs.for_laws.QuotedWords.{AreBytes, quoted_text_of, quoted_text_row, text-of}
use Rattle.key_dump.proofs.for_laws.ReadFields.{Reads, end_of_line_read, function_read, keyword_read, next_is, tail}
use Rattle.key_dump.proofs.for_laws.RowsSay.{says_by, word_row}
use Rattle.key_dump.proofs.for_laws.TextRows.{Says, is_row}

text_by : (end : Place) (items w left : List Placed) (text : List ℕ) → next BAD_TEXT end items ≡ Ok (w, left) → text_of w ≡ Some text → text_at end items ≡ Ok (text, place_of_word w, left)
unfolding text_at
text_by end items w left text e1 e2 = rw (e1, e2) refl

short_by : (end : Place) (items left : List Placed) (text : List ℕ) (at : Place) → text_at end items ≡ Ok (text, at, left) → leb (length text) 255 ≡ true → string_at end items ≡ Ok (text, left)
unfolding string_at
short_by end items left text at e1 e2 = rw (e1, e2) refl

string_read : (end : Place) (items : List Placed) (text : List ℕ) (ws : List (List ℕ)) → AreBytes text → length text ≤ 255 → bytes items ≡ tail (quoted_text text ∷ ws) → Reads (string_at end items) text ws
string_read end items text ws are short e =
    let w = quoted_text_of items text ws e are in
    record {
      left = w.left;
      is =
          short_by end items w.left text (place_of_word w.word)
          (text_by end items w.word w.left text (next_is BAD_TEXT end items (quoted_text text) (tail ws) w) (text-of w.word text w.spells are))
          (le-leb (length text) 255 short);
      leaves = w.leaves;
    }

string_by : (end : Place) (items : List Placed) (i : ℕ) (text : List ℕ) (p q r : List Placed) → function_at end items ≡ Ok (i, p) → keyword_at (codes "=") end p ≡ Ok q → string_at end q ≡ Ok (text, r) → end_of_line r ≡ Ok tt → string_line end items ≡ Ok (means (string i text))
unfolding string_line
string_by end items i text p q r e1 e2 e3 e4 = rw (e1, e2, e3, e4) refl

-- the row of a string
pub string_says : NamesAreTheirOwn → (i : ℕ) (text : List ℕ) → i < 256 → AreBytes text → length text ≤ 255 → Says (join_with_byte 0x20 (string_words i text)) (string i text)
string_says own i text low are short =
    let name = name_text (act FUNCTION i) in
    says_by (codes "string") (name ∷ codes "=" ∷ quoted_text text ∷ []) (string i text) refl
    (and_from (is_row name) _ (word_row name (name_word (act FUNCTION i)))
    (and_from (is_row (quoted_text text)) true (quoted_text_row text are) refl))
    (λ end word left leaves.
    let func = function_read own end left i (codes "=" ∷ quoted_text text ∷ []) low leaves in
    let equals = keyword_read (codes "=") end func.left (quoted_text text ∷ []) refl refl func.leaves in
    let bytes_of = string_read end equals.left text [] are short equals.leaves in
    string_by end left i text func.left equals.left bytes_of.left func.is equals.is bytes_of.is (end_of_line_read bytes_of.left bytes_of.leaves))
