-- Words of the same bytes are read alike.
use Rattle.std.proofs.Common.{◌≡◌, ℕ, zero, suc, ◌+◌, ◌==◌, ◌&&◌, ◌≤◌, Bool, not, false, cond, nat_le, Option, Some, None, Ok, Err, List, [], ◌∷◌, length, map, drop, take, refl, sym, ap, ◌∙◌, subst, arith}
use Rattle.std.specs.Option.{option_and_then, option_map}
use Rattle.key_syms.specs.Names.{symbol}
use Rattle.key_syms.specs.Numbers.{number_of}
use Rattle.std.specs.Str.{str_eq_ignore_ascii_case}
use Rattle.std.specs.Str.Lossy.{utf8_valid_len}
use Rattle.key_text.proofs.for_laws.Like.{Like}
use Rattle.key_text.proofs.for_laws.Same.{Same, pick, then}
use Rattle.key_text.proofs.for_laws.LikeFields.{Equal, rangeds}
use Rattle.key_text.proofs.for_laws.Shorter.{shorter}
use Rattle.key_text.specs.Fault.{fault, ◌>>=◌}
use Rattle.key_text.specs.FaultKinds.{OUT_OF_RANGE}
use Rattle.key_text.specs.Fields.{is_quoted}
use Rattle.key_text.specs.Lines.{before, dash, in_order, table_marks, pieces, range_by, range_of, ranges_of, table_of, tables_in}
use Rattle.key_text.specs.Quoted.{text_between, character_of, text_before_quote, one_character, text_of, unescaped_whole}
use Rattle.key_text.specs.Rows.{backslash}
use Rattle.key_text.specs.SameWords.{SameWords, ended, word}
use Rattle.key_text.specs.Words.{bytes, close_at, place_of_word, word_at}
use Rattle.key_text.specs.declared.keymaps_line.TableRange.{TableRange}
use Rattle.key_text.specs.declared.placed.Placed.{Placed}

-- a byte somewhere, and bytes somewhere
abbrev pub bare : ℕ → Placed
bare b = record { byte = b; line = 0; column = 0 }

abbrev pub bares : List ℕ → List Placed
bares bs = map bare bs

pub close_bare : (q : ℕ) (escaped : Bool) (ps : List Placed) → close_at q escaped ps ≡ close_at q escaped (bares (bytes ps))
close_bare q escaped [] = refl
close_bare q escaped (p ∷ ps) = ap (λ n. cond (not escaped && p.byte == q) (Some 0) (option_map suc n)) (close_bare q (not escaped && p.byte == backslash) ps)

pub bytes-bare : (bs : List ℕ) → bytes (bares bs) ≡ bs
bytes-bare [] = refl
bytes-bare (b ∷ bs) = ap (λ x. b ∷ x) (bytes-bare bs)

pub length-bare : (ps : List Placed) → length ps ≡ length (bares (bytes ps))
length-bare [] = refl
length-bare (p ∷ ps) = ap suc (length-bare ps)

text_before_quote-bare : (ps : List Placed) (n : Option ℕ) → text_before_quote ps n ≡ text_before_quote (bares (bytes ps)) n
text_before_quote-bare ps None = refl
text_before_quote-bare ps (Some n) =
    ap (λ l. cond (suc n == l) (Some (take n (bytes ps))) None) (length-bare ps)
    ∙ ap (λ bs. cond (suc n == length (bares (bytes ps))) (Some (take n bs)) None) (sym (bytes-bare (bytes ps)))

text_between-bare : (q : ℕ) (v : List Placed) → text_between q v ≡ text_between q (bares (bytes v))
text_between-bare q [] = refl
text_between-bare q (p ∷ ps) =
    ap (λ c. cond (p.byte == q) c None) (text_before_quote-bare ps (close_at q false ps) ∙ ap (text_before_quote (bares (bytes ps))) (close_bare q false ps))

text_between_same : (q : ℕ) (v w : List Placed) → bytes v ≡ bytes w → text_between q v ≡ text_between q w
text_between_same q v w e = text_between-bare q v ∙ ap (λ bs. text_between q (bares bs)) e ∙ sym (text_between-bare q w)

text_same : (v w : List Placed) → bytes v ≡ bytes w → text_of v ≡ text_of w
unfolding text_of
text_same v w e = ap (option_and_then unescaped_whole) (text_between_same 0x22 v w e)

character_same : (v w : List Placed) → bytes v ≡ bytes w → character_of v ≡ character_of w
unfolding character_of
character_same v w e = ap (option_and_then one_character) (text_between_same 0x27 v w e)

quoted_bare : (v : List Placed) → is_quoted v ≡ is_quoted (bares (bytes v))
quoted_bare [] = refl
quoted_bare (p ∷ ps) = refl

length_same : (v w : List Placed) → bytes v ≡ bytes w → length v ≡ length w
length_same v w e = length-bare v ∙ ap (λ bs. length (bares bs)) e ∙ sym (length-bare w)

-- ranges of tables of the same bytes
tables_of : (v w : List Placed) (piece : List ℕ) → Same Equal (table_of v piece) (table_of w piece)
tables_of v w piece = rangeds 0 255 v w (number_of piece) (number_of piece) refl

abbrev pub range : ℕ → ℕ → TableRange
range low high = record { low = low; high = high }

ranges_same : (low high a b : ℕ) → low ≡ a → high ≡ b → range low high ≡ range a b
ranges_same low high a b e f = ap (λ x. range x high) e ∙ ap (range a) f

in_orders : (v w : List Placed) (low high a b : ℕ) → low ≡ a → high ≡ b → Same Equal (in_order v low high) (in_order w a b)
in_orders v w low high a b e f =
    pick Equal (nat_le low high) (nat_le a b) (Ok (range low high)) (Err (fault OUT_OF_RANGE (place_of_word v))) (Ok (range a b)) (Err (fault OUT_OF_RANGE (place_of_word w)))
    (ap (λ x. nat_le x high) e ∙ ap (nat_le a) f) (ranges_same low high a b e f) refl

ranges_by : (v w : List Placed) (piece : List ℕ) (n : ℕ) → Same Equal (range_by v piece n) (range_by w piece n)
ranges_by v w piece n =
    then Equal Equal (table_of v (take n piece)) (table_of w (take n piece)) _ _ (tables_of v w (take n piece))
    (λ a b e. pick Equal (n == length piece) (n == length piece) (Ok (range a a)) (table_of v (drop (n + 1) piece) >>= λ high. in_order v a high) (Ok (range b b)) (table_of w (drop (n + 1) piece) >>= λ high. in_order w b high)
    refl (ranges_same a a b b e e)
    (then Equal Equal (table_of v (drop (n + 1) piece)) (table_of w (drop (n + 1) piece)) _ _ (tables_of v w (drop (n + 1) piece))
    (λ c d f. in_orders v w a c b d e f)))

range_ofs : (v w : List Placed) (piece : List ℕ) → Same Equal (range_of v piece) (range_of w piece)
unfolding range_of
range_ofs v w piece = ranges_by v w piece (before dash piece)

ranges_ofs : (v w : List Placed) (ps : List (List ℕ)) → Same Equal (ranges_of v ps) (ranges_of w ps)
ranges_ofs v w [] = refl
ranges_ofs v w (p ∷ ps) =
    then Equal Equal (range_of v p) (range_of w p) _ _ (range_ofs v w p)
    (λ a b e. then Equal Equal (ranges_of v ps) (ranges_of w ps) _ _ (ranges_ofs v w ps)
    (λ us ws f. ap (λ x. x ∷ us) e ∙ ap (λ xs. b ∷ xs) f))

pub tables_ins : (v w : List Placed) (text : List ℕ) → Same Equal (tables_in v text) (tables_in w text)
tables_ins v w text =
    then Equal Equal (ranges_of v (pieces text)) (ranges_of w (pieces text)) _ _ (ranges_ofs v w (pieces text)) (λ us ws e. ap table_marks e)

tables_same : (v w : List Placed) → bytes v ≡ bytes w → Same Equal (tables_in v (bytes v)) (tables_in w (bytes w))
tables_same v w e = subst (λ (bs : List ℕ). Same Equal (tables_in v (bytes v)) (tables_in w bs)) e (tables_ins v w (bytes v))

pub like_bytes : (v w : List Placed) → bytes v ≡ bytes w → Like v w
like_bytes v w e = record {
  valid = ap (λ bs. utf8_valid_len bs == length v) e ∙ ap (λ n. utf8_valid_len (bytes w) == n) (length_same v w e);
  keyword = λ text key. ap (λ bs. str_eq_ignore_ascii_case bs text) e;
  number = ap number_of e;
  symbol = ap symbol e;
  text = text_same v w e;
  character = character_same v w e;
  quoted = quoted_bare v ∙ ap (λ bs. is_quoted (bares bs)) e ∙ sym (quoted_bare w);
  tables = tables_same v w e;
}

-- a row has the words that it has
pub same_row : (n : ℕ) (i : List Placed) → length i ≤ n → SameWords Like i i
same_row zero i h = by_word (word_at i) refl
  where
    by_word : (x : Option (List Placed × List Placed)) → word_at i ≡ x → SameWords Like i i
    by_word None e = ended i i e e
    by_word (Some v) e = absurd (let s = shorter i v e in omega arith)
same_row (suc n) i h = by_word (λ r k. same_row n r k) (word_at i) refl
  where
    by_word : ((r : List Placed) → length r ≤ n → SameWords Like r r) → (x : Option (List Placed × List Placed)) → word_at i ≡ x → SameWords Like i i
    by_word rest None e = ended i i e e
    by_word rest (Some v) e = word i i v v e e (like_bytes v.0 v.0 refl) (rest v.1 (let s = shorter i v e in omega arith))
