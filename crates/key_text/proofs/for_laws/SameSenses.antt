-- Words that mean the same are read alike.
use Rattle.std.proofs.Common.{◌≡◌, ℕ, suc, ◌+◌, ◌==◌, ◌&&◌, ◌||◌, ◌≤◌, Bool, not, true, false, cond, nat_le, nat_lt, nat_eq, IsTrue, Some, None, Result, Ok, Err, List, [], ◌∷◌, length, codes, drop, refl, sym, ap, ◌∙◌, subst, arith}
use Rattle.std.specs.Prelude.{find}
use Rattle.std.proofs.lemmas.Bool.{and_parts, and_right, eq-eqb, false≢true, leb-true, ne_eqb, not-true, or_parts}
use Rattle.std.proofs.lemmas.Bool.Decides.{nat_tests}
use Rattle.std.proofs.lemmas.List.{take_all}
use Rattle.std.proofs.lemmas.Slice.Eq.{bytes_eq-Decides}
use Rattle.std.specs.Char.{eq_ignore_ascii_case}
use Rattle.std.specs.List.{list_all, starts_with}
use Rattle.std.specs.Option.{option_and_then, option_map, option_or}
use Rattle.std.specs.Str.{bytes_eq, str_eq_ignore_ascii_case}
use Rattle.key_syms.specs.Act.{Act, act}
use Rattle.key_syms.specs.Kinds.{CHARACTER, LETTER}
use Rattle.key_syms.specs.Names.{code_point, listed_action, small_number, symbol, unlisted_action}
use Rattle.key_syms.specs.Numbers.{is_between, number_of, number_if}
use Rattle.key_syms.specs.Symbols.{Symbol, symbols}
use Rattle.key_text.proofs.for_laws.FirstWords.{folds, valid_ascii}
use Rattle.key_text.proofs.for_laws.Like.{Alike, Like, begins_key}
use Rattle.key_text.proofs.for_laws.LikeFields.{Equal, rangeds}
use Rattle.key_text.proofs.for_laws.LikeReading.{AreSaid, alike_said, rows_decide}
use Rattle.key_text.proofs.for_laws.Same.{Same, then}
use Rattle.key_text.proofs.for_laws.SameBytes.{like_bytes, range}
use Rattle.key_text.specs.Fault.{◌>>=◌}
use Rattle.key_text.specs.Fields.{is_quoted}
use Rattle.key_text.specs.Lines.{before, comma, dash, table_marks, pieces, range_by, range_of, ranges_of, table_of, tables_in, with_byte}
use Rattle.key_text.specs.Quoted.{text_between, character_of, text_before_quote, one_character, text_of, unescaped_whole}
use Rattle.key_text.specs.SameWords.{SameWords, ended, word}
use Rattle.key_text.specs.Senses.{IsName, IsNumber, SameSense, SensesDecide, begins_digit, is_single, name, number, same}
use Rattle.key_text.specs.Words.{bytes, close_at}
use Rattle.key_text.specs.declared.fault.KeyFault.{KeyFault}
use Rattle.key_text.specs.declared.keymaps_line.TableRange.{TableRange}
use Rattle.key_text.specs.declared.placed.Placed.{Placed}

-- a word with neither comma nor dash is one range at most
one_piece : (text : List ℕ) → IsTrue (is_single text) → pieces text ≡ text ∷ []
one_piece [] h = refl
one_piece (b ∷ bs) h =
    let here = not-true (b == comma || b == dash) ((and_parts (not (b == comma || b == dash)) (is_single bs) h).0) in
    ap (λ t. cond t ([] ∷ pieces bs) (with_byte b (pieces bs))) ((or_parts (b == comma) (b == dash) here).0)
    ∙ ap (with_byte b) (one_piece bs ((and_parts (not (b == comma || b == dash)) (is_single bs) h).1))

no_dash : (text : List ℕ) → IsTrue (is_single text) → before dash text ≡ length text
no_dash [] h = refl
no_dash (b ∷ bs) h =
    let here = not-true (b == comma || b == dash) ((and_parts (not (b == comma || b == dash)) (is_single bs) h).0) in
    ap (λ t. cond (not t) (1 + before dash bs) 0) ((or_parts (b == comma) (b == dash) here).1)
    ∙ (let n = no_dash bs ((and_parts (not (b == comma || b == dash)) (is_single bs) h).1) in let e : 1 + before dash bs ≡ suc (length bs) = omega (arith, n) in e)

abbrev one_range : Result ℕ KeyFault → Result (List TableRange) KeyFault
one_range read = read >>= λ low. Ok (range low low ∷ [])

whole_range : (v : List Placed) (text : List ℕ) → range_by v text (length text) ≡ (table_of v text >>= λ low. Ok (range low low))
whole_range v text =
    ap (λ front. table_of v front >>= λ low. cond (length text == length text) (Ok (range low low)) (table_of v (drop (length text + 1) text) >>= λ high. Rattle.key_text.specs.Lines.in_order v low high)) (take_all (length text) text (omega arith))
    ∙ ap (λ t. table_of v text >>= λ low. cond t (Ok (range low low)) (table_of v (drop (length text + 1) text) >>= λ high. Rattle.key_text.specs.Lines.in_order v low high)) (eq-eqb (length text) (length text) refl)

single_range : (v : List Placed) (text : List ℕ) → IsTrue (is_single text) → range_of v text ≡ (table_of v text >>= λ low. Ok (range low low))
unfolding range_of
single_range v text h = ap (range_by v text) (no_dash text h) ∙ whole_range v text

listed_action-range : (x : Result ℕ KeyFault) → ((x >>= λ low. Ok (range low low)) >>= λ r. Ok (r ∷ [])) ≡ one_range x
listed_action-range (Ok low) = refl
listed_action-range (Err f) = refl

single_tables : (v : List Placed) (text : List ℕ) → IsTrue (is_single text) → tables_in v text ≡ (one_range (table_of v text) >>= λ ranges. Ok (table_marks ranges))
single_tables v text h =
    ap (λ ps. ranges_of v ps >>= λ ranges. Ok (table_marks ranges)) (one_piece text h)
    ∙ ap (λ x. (x >>= λ r. Ok (r ∷ [])) >>= λ ranges. Ok (table_marks ranges)) (single_range v text h)
    ∙ ap (λ x. x >>= λ ranges. Ok (table_marks ranges)) (listed_action-range (table_of v text))

tables_like : (v w : List Placed) → IsTrue (is_single (bytes v)) → IsTrue (is_single (bytes w)) → number_of (bytes v) ≡ number_of (bytes w) → Same Equal (tables_in v (bytes v)) (tables_in w (bytes w))
tables_like v w h k e =
    subst (λ (x : Result (List Bool) KeyFault). Same Equal x (tables_in w (bytes w))) (sym (single_tables v (bytes v) h))
    (subst (λ (y : Result (List Bool) KeyFault). Same Equal (one_range (table_of v (bytes v)) >>= λ ranges. Ok (table_marks ranges)) y) (sym (single_tables w (bytes w) k))
    (then Equal Equal (one_range (table_of v (bytes v))) (one_range (table_of w (bytes w))) _ _
    (then Equal Equal (table_of v (bytes v)) (table_of w (bytes w)) _ _ (rangeds 0 255 v w (number_of (bytes v)) (number_of (bytes w)) e)
    (λ a b f. ap (λ x. range x x ∷ []) f))
    (λ a b f. ap table_marks f)))

-- what no quote begins is no quoted text
no_double : (v : List Placed) → is_quoted v ≡ false → text_between 0x22 v ≡ None
no_double [] h = refl
no_double (p ∷ ps) h = ap (λ t. cond t (text_before_quote ps (close_at 0x22 false ps)) None) ((or_parts (p.byte == 0x22) (p.byte == 0x27) h).0)

no_single : (v : List Placed) → is_quoted v ≡ false → text_between 0x27 v ≡ None
no_single [] h = refl
no_single (p ∷ ps) h = ap (λ t. cond t (text_before_quote ps (close_at 0x27 false ps)) None) ((or_parts (p.byte == 0x22) (p.byte == 0x27) h).1)

no_text : (v : List Placed) → is_quoted v ≡ false → text_of v ≡ None
unfolding text_of
no_text v h = ap (option_and_then unescaped_whole) (no_double v h)

no_character : (v : List Placed) → is_quoted v ≡ false → character_of v ≡ None
unfolding character_of
no_character v h = ap (option_and_then one_character) (no_single v h)

like_name : (v w : List Placed) → IsName v → IsName w → IsTrue (str_eq_ignore_ascii_case (bytes v) (bytes w)) → Like v w
like_name v w a b c = record {
  valid = valid_ascii v a.plain ∙ sym (valid_ascii w b.plain);
  keyword = λ text key. folds (bytes v) (bytes w) text c;
  number = a.no_number ∙ sym b.no_number;
  symbol = a.no_symbol ∙ sym b.no_symbol;
  text = no_text v a.unquoted ∙ sym (no_text w b.unquoted);
  character = no_character v a.unquoted ∙ sym (no_character w b.unquoted);
  quoted = a.unquoted ∙ sym b.unquoted;
  tables = tables_like v w a.single b.single (a.no_number ∙ sym b.no_number);
}

-- what a digit begins
digit_low : (b : ℕ) → is_between 0x30 0x39 b ≡ true → 0x30 ≤ b
digit_low b h = leb-true 0x30 b ((and_parts (nat_le 0x30 b) (nat_le b 0x39) h).0)

digit_high : (b : ℕ) → is_between 0x30 0x39 b ≡ true → b ≤ 0x39
digit_high b h = leb-true b 0x39 ((and_parts (nat_le 0x30 b) (nat_le b 0x39) h).1)

digit_key : (b t : ℕ) → is_between 0x30 0x39 b ≡ true → is_between 0x30 0x39 t ≡ false → eq_ignore_ascii_case b t ≡ false
digit_key b t h k = grind (arith, nat_tests)

digit_word : (bs text : List ℕ) → IsTrue (begins_digit bs) → IsTrue (begins_key text) → str_eq_ignore_ascii_case bs text ≡ false
digit_word [] text h k = absurd (false≢true h)
digit_word (b ∷ bs) [] h k = absurd (false≢true k)
digit_word (b ∷ bs) (t ∷ text) h k = ap (λ x. x && str_eq_ignore_ascii_case bs text) (digit_key b t h (not-true (is_between 0x30 0x39 t) k))

digit_unquoted : (v : List Placed) → IsTrue (begins_digit (bytes v)) → is_quoted v ≡ false
digit_unquoted [] h = refl
digit_unquoted (p ∷ ps) h =
    ap (λ t. t || p.byte == 0x27) (ne_eqb p.byte 0x22 (λ e. let l = digit_low p.byte h in omega (arith, l, e)))
    ∙ ne_eqb p.byte 0x27 (λ e. let l = digit_low p.byte h in omega (arith, l, e))

-- no symbol of the table begins with a digit
abbrev unlike : Symbol → Bool
unlike row = not (begins_digit row.name)

none_digit : list_all unlike symbols ≡ true
unfolding symbols
none_digit = refl

not-listed_action : (rows : List Symbol) (text : List ℕ) → list_all unlike rows ≡ true → IsTrue (begins_digit text) → listed_action rows text ≡ None
not-listed_action [] text h k = refl
not-listed_action (r ∷ rows) text h k =
    ap (λ t. option_map (λ (row : Symbol). row.act) (cond t (Some r) (find (λ row. bytes_eq row.name text) rows))) (other (bytes_eq r.name text) refl)
    ∙ not-listed_action rows text ((and_parts (unlike r) (list_all unlike rows) h).1) k
  where
    other : (t : Bool) → bytes_eq r.name text ≡ t → t ≡ false
    other true e = absurd (false≢true (sym (not-true (begins_digit r.name) ((and_parts (unlike r) (list_all unlike rows) h).0)) ∙ ap begins_digit ((bytes_eq-Decides r.name text).0 e) ∙ k))
    other false e = refl

no_plus : (text : List ℕ) → IsTrue (begins_digit text) → starts_with nat_eq text (codes "+") ≡ false
no_plus [] h = absurd (false≢true h)
no_plus (b ∷ bs) h = ap (λ t. t && true) (ne_eqb 0x2B b (λ e. let l = digit_low b h in omega (arith, l, e)))

no_prefix : (text : List ℕ) → IsTrue (begins_digit text) → starts_with nat_eq text (codes "U+") ≡ false
no_prefix [] h = absurd (false≢true h)
no_prefix (b ∷ []) h = ap (λ t. t && false) (ne_eqb 0x55 b (λ e. let l = digit_high b h in omega (arith, l, e)))
no_prefix (b ∷ c ∷ bs) h = ap (λ t. t && (nat_eq 0x2B c && true)) (ne_eqb 0x55 b (λ e. let l = digit_high b h in omega (arith, l, e)))

digit_symbol : (text : List ℕ) → IsTrue (begins_digit text) → symbol text ≡ option_map (act CHARACTER) (option_and_then (number_if (λ n. nat_lt n 256)) (number_of text))
unfolding symbol
digit_symbol text h =
    ap (λ x. option_or x (unlisted_action text)) (not-listed_action symbols text none_digit h)
    ∙ ap (λ t. cond t (option_map (act LETTER) (code_point (drop 1 text))) (option_map (act CHARACTER) (option_or (code_point text) (small_number text)))) (no_plus text h)
    ∙ ap (λ x. option_map (act CHARACTER) (option_or x (small_number text))) no-point
  where
    no-point : code_point text ≡ None
    no-point = ap (λ t. cond t (option_and_then (number_if Rattle.key_syms.specs.Act.is_character) (Rattle.key_syms.specs.Numbers.number_in_base 16 (drop 2 text))) None)
        (ap (λ t. length text == 6 && t) (no_prefix text h) ∙ and_right (length text == 6) false refl)

like_number : (n : ℕ) (v w : List Placed) → IsNumber n v → IsNumber n w → Like v w
like_number n v w a b =
    let numbers : number_of (bytes v) ≡ number_of (bytes w) = a.number ∙ sym b.number in
    let x = digit_unquoted v a.digit in
    let y = digit_unquoted w b.digit in
    record {
      valid = valid_ascii v a.plain ∙ sym (valid_ascii w b.plain);
      keyword = λ text key. digit_word (bytes v) text a.digit key ∙ sym (digit_word (bytes w) text b.digit key);
      number = numbers;
      symbol =
          digit_symbol (bytes v) a.digit
          ∙ ap (λ x. option_map (act CHARACTER) (option_and_then (number_if (λ n. nat_lt n 256)) x)) numbers
          ∙ sym (digit_symbol (bytes w) b.digit);
      text = no_text v x ∙ sym (no_text w y);
      character = no_character v x ∙ sym (no_character w y);
      quoted = x ∙ sym y;
      tables = tables_like v w a.single b.single numbers;
    }

like_sense : (v w : List Placed) → SameSense v w → Like v w
like_sense v w (same _ _ e) = like_bytes v w e
like_sense v w (number n _ _ a b) = like_number n v w a b
like_sense v w (name _ _ a b c) = like_name v w a b c

senses_alike : (i j : List Placed) → SameWords SameSense i j → Alike i j
senses_alike i j (ended _ _ e f) = ended i j e f
senses_alike i j (word _ _ v w e f l s) = word i j v w e f (like_sense v.0 w.0 l) (senses_alike v.1 w.1 s)

senses_said : AreSaid (SameWords SameSense)
senses_said i j s d e = alike_said i j (senses_alike i j s) d e

pub senses_decide : SensesDecide
senses_decide texts a b s = rows_decide (SameWords SameSense) senses_said texts a b s
