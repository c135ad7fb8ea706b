-- The row of the tables is read as their line.
use Rattle.std.proofs.Common.{◌≡◌, ℕ, suc, ◌+◌, ◌<◌, Bool, true, false, ◌==◌, not, ltb, cond, Ok, List, [], ◌∷◌, ◌++◌, codes, decimal, length, map, refl, ap, ◌∙◌, drop, arith, length-append, rules}
use Rattle.std.proofs.Math.Seq.{take-length}
use Rattle.std.proofs.lemmas.Bool.{and_from, and_parts, eq-eqb, ltb-true}
use Rattle.std.proofs.lemmas.Bool.Decides.{nat_tests}
use Rattle.std.proofs.lemmas.List.Folds.{list_all-append}
use Rattle.std.specs.List.{join_with_byte, list_all}
use Rattle.key_text.specs.Fault.{◌>>=◌}
use Rattle.key_text.specs.FaultKinds.{UNKNOWN_WORD}
use Rattle.key_text.specs.Fields.{end_of_line}
use Rattle.key_text.specs.Lines.{before, comma, dash, in_order, keymaps_line, table_marks, pieces, range_by, range_of, ranges_of, table_of, tables_in, means}
use Rattle.key_text.specs.KeymapLine.{keymaps}
use Rattle.key_text.specs.Words.{bytes, next}
use Rattle.key_text.specs.declared.keymaps_line.TableRange.{TableRange}
use Rattle.key_text.specs.declared.placed.Place.{Place}
use Rattle.key_text.specs.declared.placed.Placed.{Placed}
use Rattle.key_dump.proofs.for_laws.NamedWords.{decimal-digits, decimal_word, is_digit}
use Rattle.key_dump.proofs.for_laws.NextWord.{is_word_byte, is_word_text, word_text_all}
use Rattle.key_dump.proofs.for_laws.ReadFields.{end_of_line_read, next_is, number_number_in_range, word_of}
use Rattle.key_dump.proofs.for_laws.RowsSay.{says_by, word_row}
use Rattle.key_dump.proofs.for_laws.TextRows.{Says, is_row}

-- the range of one table
abbrev pub only : ℕ → TableRange
only n = record { low = n; high = n }

digit_no_comma : (b : ℕ) → is_digit b ≡ true → (b == comma) ≡ false
digit_no_comma b e = grind (arith, nat_tests)

digit_no_dash : (b : ℕ) → is_digit b ≡ true → not (b == dash) ≡ true
digit_no_dash b e = grind (arith, nat_tests)

pieces_one : (text : List ℕ) → list_all is_digit text ≡ true → pieces text ≡ text ∷ []
pieces_one [] e = refl
pieces_one (b ∷ bs) e =
    let parts = and_parts (is_digit b) (list_all is_digit bs) e in
    cc (digit_no_comma b parts.0, pieces_one bs parts.1)

pieces_more : (text rest : List ℕ) → list_all is_digit text ≡ true → pieces (text ++ comma ∷ rest) ≡ text ∷ pieces rest
pieces_more [] rest e = refl
pieces_more (b ∷ bs) rest e =
    let parts = and_parts (is_digit b) (list_all is_digit bs) e in
    cc (digit_no_comma b parts.0, pieces_more bs rest parts.1)

-- numbers below 256
abbrev pub are_small : List ℕ → Bool
are_small ns = list_all (λ n. ltb n 256) ns

pieces_join : (n : ℕ) (ns : List ℕ) → are_small (n ∷ ns) ≡ true → pieces (join_with_byte 0x2C (map decimal (n ∷ ns))) ≡ map decimal (n ∷ ns)
pieces_join n [] e =
    pieces_one (decimal n) (decimal-digits n (ltb-true n 256 (and_parts (ltb n 256) true e).0))
pieces_join n (m ∷ ns) e =
    let parts = and_parts (ltb n 256) (are_small (m ∷ ns)) e in
    pieces_more (decimal n) (join_with_byte 0x2C (map decimal (m ∷ ns))) (decimal-digits n (ltb-true n 256 parts.0))
    ∙ ap (λ ps. decimal n ∷ ps) (pieces_join m ns parts.1)

no_dash : (text : List ℕ) → list_all is_digit text ≡ true → before dash text ≡ length text
no_dash [] e = refl
no_dash (b ∷ bs) e =
    let parts = and_parts (is_digit b) (list_all is_digit bs) e in
    ap (λ t. cond t (1 + before dash bs) 0) (digit_no_dash b parts.0)
    ∙ (let more = no_dash bs parts.1 in let count : 1 + before dash bs ≡ suc (length bs) = omega arith in count)

range_is : (word : List Placed) (n : ℕ) → n < 256 → range_of word (decimal n) ≡ Ok (only n)
unfolding range_of
range_is word n h =
    let text = decimal n in
    let len = length text in
    ap (range_by word text) (no_dash text (decimal-digits n h))
    ∙ ap (λ t. table_of word t >>= λ low. cond (len == len) (Ok (only low)) (table_of word (drop (len + 1) text) >>= λ high. in_order word low high)) (take-length text)
    ∙ ap (λ read. read >>= λ low. cond (len == len) (Ok (only low)) (table_of word (drop (len + 1) text) >>= λ high. in_order word low high)) (number_number_in_range 0 word n text refl (omega arith) h)
    ∙ ap (λ t. cond t (Ok (only n)) (table_of word (drop (len + 1) text) >>= λ high. in_order word n high)) (eq-eqb len len refl)

ranges_are : (word : List Placed) (ns : List ℕ) → are_small ns ≡ true → ranges_of word (map decimal ns) ≡ Ok (map only ns)
ranges_are word [] e = refl
ranges_are word (n ∷ ns) e =
    let parts = and_parts (ltb n 256) (are_small ns) e in
    ap (λ read. read >>= λ range. ranges_of word (map decimal ns) >>= λ ranges. Ok (range ∷ ranges)) (range_is word n (ltb-true n 256 parts.0))
    ∙ ap (λ read. read >>= λ ranges. Ok (only n ∷ ranges)) (ranges_are word ns parts.1)

joined_bytes : (ns : List ℕ) → are_small ns ≡ true → list_all is_word_byte (join_with_byte 0x2C (map decimal ns)) ≡ true
joined_bytes [] e = refl
joined_bytes (n ∷ []) e =
    word_text_all (decimal n) (decimal_word n (ltb-true n 256 (and_parts (ltb n 256) true e).0))
joined_bytes (n ∷ m ∷ ns) e =
    let parts = and_parts (ltb n 256) (are_small (m ∷ ns)) e in
    let rest = join_with_byte 0x2C (map decimal (m ∷ ns)) in
    list_all-append is_word_byte (decimal n) (0x2C ∷ rest)
    ∙ and_from (list_all is_word_byte (decimal n)) (list_all is_word_byte (0x2C ∷ rest))
    (word_text_all (decimal n) (decimal_word n (ltb-true n 256 parts.0))) (joined_bytes (m ∷ ns) parts.1)

-- a text that isn't empty, of such bytes, is a word
word_from : (text : List ℕ) → 0 < length text → list_all is_word_byte text ≡ true → is_word_text text ≡ true
word_from [] h e = absurd (omega arith)
word_from (b ∷ bs) h e = e

some_digit : (text : List ℕ) → is_word_text text ≡ true → 0 < length text
some_digit [] e = cc
some_digit (b ∷ bs) e = omega arith

some_joined : (n : ℕ) (ns : List ℕ) → n < 256 → 0 < length (join_with_byte 0x2C (map decimal (n ∷ ns)))
some_joined n [] h = some_digit (decimal n) (decimal_word n h)
some_joined n (m ∷ ns) h =
    grind (arith, some_digit, decimal, decimal_word, length-append)

joined_word : (n : ℕ) (ns : List ℕ) → are_small (n ∷ ns) ≡ true → is_word_text (join_with_byte 0x2C (map decimal (n ∷ ns))) ≡ true
joined_word n ns e =
    word_from (join_with_byte 0x2C (map decimal (n ∷ ns)))
    (some_joined n ns (ltb-true n 256 (and_parts (ltb n 256) (are_small ns) e).0)) (joined_bytes (n ∷ ns) e)

keymaps_by : (end : Place) (items w left : List Placed) (marks : List Bool) → next UNKNOWN_WORD end items ≡ Ok (w, left) → tables_in w (bytes w) ≡ Ok marks → end_of_line left ≡ Ok tt → keymaps_line end items ≡ Ok (means (keymaps marks))
unfolding keymaps_line
keymaps_by end items w left marks e1 e2 e3 = rw (e1, e2, e3) refl

tables_are : (word : List Placed) (n : ℕ) (ns : List ℕ) (text : List ℕ) → are_small (n ∷ ns) ≡ true → text ≡ join_with_byte 0x2C (map decimal (n ∷ ns)) → tables_in word text ≡ Ok (table_marks (map only (n ∷ ns)))
tables_are word n ns text small e =
    cc (pieces_join n ns small, ranges_are word (n ∷ ns) small)

-- the row of some tables
pub keymaps_says : (n : ℕ) (ns : List ℕ) → are_small (n ∷ ns) ≡ true → Says (join_with_byte 0x20 (codes "keymaps" ∷ join_with_byte 0x2C (map decimal (n ∷ ns)) ∷ [])) (keymaps (table_marks (map only (n ∷ ns))))
keymaps_says n ns small =
    let text = join_with_byte 0x2C (map decimal (n ∷ ns)) in
    let is_word = joined_word n ns small in
    says_by (codes "keymaps") (text ∷ []) (keymaps (table_marks (map only (n ∷ ns)))) refl
    (and_from (is_row text) true (word_row text is_word) refl)
    (λ end word left leaves.
    let w = word_of left text [] leaves is_word in
    keymaps_by end left w.word w.left (table_marks (map only (n ∷ ns))) (next_is UNKNOWN_WORD end left text [] w)
    (tables_are w.word n ns (bytes w.word) small w.spells) (end_of_line_read w.left w.leaves))
