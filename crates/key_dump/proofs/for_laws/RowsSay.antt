-- Rows of words: their bytes are seen, and a row is read by its first word.
use Rattle.std.proofs.Common.{◌≡◌, ℕ, true, ◌==◌, ◌&&◌, not, leb, cond, Option, Some, None, Result, Ok, List, [], ◌∷◌, ◌++◌, codes, refl, ap, ◌∙◌}
use Rattle.std.proofs.lemmas.Bool.{and_from, and_parts}
use Rattle.std.specs.List.{join_with_byte, list_all}
use Rattle.std.specs.Str.{str_eq_ignore_ascii_case}
use Rattle.key_text.specs.Fault.{◌>>=◌}
use Rattle.key_text.specs.Lines.{StatementView, alt_is_meta_line, charset_line, compose_line, include_line, keymaps_line, keys_line, line_by, modified_by, statement_from, string_line, means, usual_strings_line, weight_of}
use Rattle.key_text.specs.KeymapLine.{LineMeaning}
use Rattle.key_text.specs.Words.{bytes, word_at}
use Rattle.key_text.specs.declared.fault.KeyFault.{KeyFault}
use Rattle.key_text.specs.declared.placed.Place.{Place}
use Rattle.key_text.specs.declared.placed.Placed.{Placed}
use Rattle.key_dump.proofs.for_laws.NextWord.{WordIs, first_word, is_seen, is_word_byte, is_word_text, word_byte_seen}
use Rattle.key_dump.proofs.for_laws.ReadFields.{join_tail, tail, tail_behind}
use Rattle.key_dump.proofs.for_laws.TextRows.{Says, SaysAt, goes_on, is_row, row_append}

word_bytes_row : (text : List ℕ) → list_all is_word_byte text ≡ true → is_row text ≡ true
word_bytes_row [] e = refl
word_bytes_row (b ∷ bs) e =
    let parts = and_parts (is_word_byte b) (list_all is_word_byte bs) e in
    and_from (is_seen b) (goes_on b bs && is_row bs) (word_byte_seen b parts.0)
    (and_from (goes_on b bs) (is_row bs) (on b bs parts.0) (word_bytes_row bs parts.1))
  where
    on : (b : ℕ) (bs : List ℕ) → is_word_byte b ≡ true → goes_on b bs ≡ true
    on b [] e = (and_parts (leb 0x28 b && leb b 0x7E) (not (b == 0x5C)) e).1
    on b (c ∷ cs) e = refl

pub word_row : (text : List ℕ) → is_word_text text ≡ true → is_row text ≡ true
word_row [] e = refl
word_row (b ∷ bs) e = word_bytes_row (b ∷ bs) e

blank_row : (text : List ℕ) → is_row text ≡ true → is_row (0x20 ∷ text) ≡ true
blank_row [] e = refl
blank_row (b ∷ bs) e = e

tail_row : (ws : List (List ℕ)) → list_all is_row ws ≡ true → is_row (tail ws) ≡ true
tail_row [] e = refl
tail_row (w ∷ ws) e =
    let parts = and_parts (is_row w) (list_all is_row ws) e in
    blank_row (w ++ tail ws) (row_append w (tail ws) parts.0 (tail_row ws parts.1))

-- words that are seen are a row
pub words_row : (w : List ℕ) (ws : List (List ℕ)) → is_row w ≡ true → list_all is_row ws ≡ true → is_row (join_with_byte 0x20 (w ∷ ws)) ≡ true
words_row w ws first more = ap is_row (join_tail w ws) ∙ row_append w (tail ws) first (tail_row ws more)

-- the weight of a modifier word
abbrev pub weight_by : List ℕ → Option ℕ
weight_by text =
    cond (str_eq_ignore_ascii_case text (codes "plain")) (Some 0)
    (cond (str_eq_ignore_ascii_case text (codes "shift")) (Some 1)
    (cond (str_eq_ignore_ascii_case text (codes "altgr")) (Some 2)
    (cond (str_eq_ignore_ascii_case text (codes "control")) (Some 4)
    (cond (str_eq_ignore_ascii_case text (codes "alt")) (Some 8)
    (cond (str_eq_ignore_ascii_case text (codes "shiftl")) (Some 16)
    (cond (str_eq_ignore_ascii_case text (codes "shiftr")) (Some 32)
    (cond (str_eq_ignore_ascii_case text (codes "ctrll")) (Some 64)
    (cond (str_eq_ignore_ascii_case text (codes "ctrlr")) (Some 128) None))))))))

pub weight-by : (word : List Placed) → weight_of word ≡ weight_by (bytes word)
unfolding weight_of
weight-by word = refl

-- a line by the bytes of its first word
abbrev pub line_with : List ℕ → Place → List Placed × List Placed → Result StatementView KeyFault
line_with text end w =
    cond (str_eq_ignore_ascii_case text (codes "keymaps")) (keymaps_line end w.1)
    (cond (str_eq_ignore_ascii_case text (codes "keycode")) (keys_line end w.1)
    (cond (str_eq_ignore_ascii_case text (codes "string")) (string_line end w.1)
    (cond (str_eq_ignore_ascii_case text (codes "compose")) (compose_line end w.1)
    (cond (str_eq_ignore_ascii_case text (codes "include")) (include_line end w.1)
    (cond (str_eq_ignore_ascii_case text (codes "charset")) (charset_line end w.1)
    (cond (str_eq_ignore_ascii_case text (codes "alt_is_meta")) (alt_is_meta_line w.1)
    (cond (str_eq_ignore_ascii_case text (codes "strings")) (usual_strings_line end w.1)
    (modified_by end w (weight_by text)))))))))

line-with : (end : Place) (w : List Placed × List Placed) → line_by end w ≡ line_with (bytes w.0) end w
unfolding line_by weight_of
line-with end w = refl

-- a row that begins with a word is read as what the line by that word says
pub says_by : (w : List ℕ) (ws : List (List ℕ)) (meaning : LineMeaning) → is_word_text w ≡ true → list_all is_row ws ≡ true → ((end : Place) (word left : List Placed) → bytes left ≡ tail ws → line_with w end (word, left) ≡ Ok (means meaning)) → Says (join_with_byte 0x20 (w ∷ ws)) meaning
unfolding statement_from
says_by w ws meaning word more by_word = record {
  plain = words_row w ws (word_row w word) more;
  says = λ end items e. at end items (first_word items w (tail ws) (e ∙ join_tail w ws) word (tail_behind ws));
}
  where
    at : (end : Place) (items : List Placed) → WordIs (word_at items) w (tail ws) → SaysAt end items meaning
    at end items found = record {
      word = found.word;
      left = found.left;
      found = found.found;
      said =
          ap (λ read. read >>= λ v. line_by end v) found.good
          ∙ line-with end (found.word, found.left)
          ∙ ap (λ text. line_with text end (found.word, found.left)) found.spells
          ∙ by_word end found.word found.left found.leaves;
    }
