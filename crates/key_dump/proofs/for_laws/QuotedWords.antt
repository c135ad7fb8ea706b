-- A text between quotes is a word, and stands for the text.
use Rattle.std.proofs.Common.{◌≡◌, ℕ, zero, suc, ◌+◌, ◌/◌, ◌%◌, ◌<◌, ◌≤◌, Bool, true, false, ◌==◌, ◌&&◌, not, leb, cond, Option, Some, None, All, List, [], ◌∷◌, ◌++◌, append_assoc, codes, drop, length, take, refl, sym, ap, ◌∙◌, subst, arith, length-append, rules}
use Rattle.std.proofs.Math.Seq.{drop-append_seam, take-append_seam}
use Rattle.std.proofs.lemmas.Bool.{agree_below, agree_below_at, and_from, and_parts, eq-eqb, eqb-true, le-leb, not-true}
use Rattle.std.proofs.lemmas.List.{drop-map}
use Rattle.std.proofs.lemmas.List.Elements.{All-head, All-tail}
use Rattle.std.specs.List.{flat_map, list_all, prefix_len}
use Rattle.std.specs.Option.{option_and_then, option_map}
use Rattle.key_text.specs.Quoted.{before_rest, escape_in, is_octal, octal_value, text_of, unescaped_bytes}
use Rattle.key_text.specs.Rows.{backslash}
use Rattle.key_text.specs.Words.{bytes, close_at, is_bare, quoted_len, word_at, word_in, word_len}
use Rattle.key_text.specs.declared.placed.Placed.{Placed}
use Rattle.key_dump.specs.Dump.{escape_of, is_plain, octal_escape, quoted_text}
use Rattle.key_dump.proofs.for_laws.NextWord.{WordIs, bare_none, is_behind, is_seen, length-bytes, prefix_len-bytes, seen_ascii, word_at_behind, word_in_is}
use Rattle.key_dump.proofs.for_laws.ReadFields.{tail, tail_behind}
use Rattle.key_dump.proofs.for_laws.TextRows.{goes_on, is_row, row_append}

-- the text as it stands between the quotes
abbrev pub inner : List ℕ → List ℕ
inner text = flat_map escape_of text

-- where a quoted text is closed, by its bytes
abbrev pub close_by : ℕ → Bool → List ℕ → Option ℕ
close_by q is_escaped [] = None
close_by q is_escaped (b ∷ bs) =
    cond (not is_escaped && b == q) (Some 0)
    (option_map suc (close_by q (not is_escaped && b == backslash) bs))

close_bytes : (q : ℕ) (is_escaped : Bool) (items : List Placed) → close_at q is_escaped items ≡ close_by q is_escaped (bytes items)
close_bytes q is_escaped [] = refl
close_bytes q is_escaped (p ∷ ps) =
    ap (λ close. cond (not is_escaped && p.byte == q) (Some 0) (option_map suc close)) (close_bytes q (not is_escaped && p.byte == backslash) ps)

-- digits of a byte's escape
abbrev pub is_digit : ℕ → Bool
is_digit b = is_octal b && (not (b == 0x22) && not (b == backslash))

pub record AreDigits (b x y z : ℕ) : Type 0 where
  pub first : is_digit x ≡ true
  pub second : is_digit y ≡ true
  pub third : is_digit z ≡ true
  pub value : octal_value (x ∷ y ∷ z ∷ []) ≡ b

digits_computed : agree_below (λ b. is_digit (0x30 + b / 64) && (is_digit (0x30 + b / 8 % 8) && (is_digit (0x30 + b % 8) && octal_value ((0x30 + b / 64) ∷ (0x30 + b / 8 % 8) ∷ (0x30 + b % 8) ∷ []) == b))) (λ b. true) 256 ≡ true
digits_computed = refl

digits_of : (b : ℕ) → b < 256 → AreDigits b (0x30 + b / 64) (0x30 + b / 8 % 8) (0x30 + b % 8)
digits_of b h =
    search (rules, agree_below_at, digits_computed, and_parts, eqb-true)

digit_octal : (b : ℕ) → is_digit b ≡ true → is_octal b ≡ true
digit_octal b e = (and_parts (is_octal b) (not (b == 0x22) && not (b == backslash)) e).0

digit_no_quote : (b : ℕ) → is_digit b ≡ true → (b == 0x22) ≡ false
digit_no_quote b e = not-true (b == 0x22) (and_parts (not (b == 0x22)) (not (b == backslash)) (and_parts (is_octal b) (not (b == 0x22) && not (b == backslash)) e).1).0

digit_no_backslash : (b : ℕ) → is_digit b ≡ true → (b == backslash) ≡ false
digit_no_backslash b e = not-true (b == backslash) (and_parts (not (b == 0x22)) (not (b == backslash)) (and_parts (is_octal b) (not (b == 0x22) && not (b == backslash)) e).1).1

plain_no_quote : (b : ℕ) → is_plain b ≡ true → (b == 0x22) ≡ false
plain_no_quote b e =
    search (rules, and_parts, not-true)

plain_no_backslash : (b : ℕ) → is_plain b ≡ true → (b == backslash) ≡ false
plain_no_backslash b e =
    not-true (b == backslash) (and_parts (leb 0x20 b && leb b 0x7E && not (b == 0x22)) (not (b == 0x5C)) e).1

-- what closes a text behind an escape closes it behind what the escape has
close_digit : (b : ℕ) (bs : List ℕ) → is_digit b ≡ true → close_by 0x22 false (b ∷ bs) ≡ option_map suc (close_by 0x22 false bs)
close_digit b bs e = rw (digit_no_quote b e, digit_no_backslash b e) refl

close_escape : (b : ℕ) (bs : List ℕ) → b < 256 → close_by 0x22 false (octal_escape b ++ bs) ≡ option_map suc (option_map suc (option_map suc (option_map suc (close_by 0x22 false bs))))
close_escape b bs h =
    let are = digits_of b h in
    let y = 0x30 + b / 8 % 8 in
    let z = 0x30 + b % 8 in
    ap (λ close. option_map suc (option_map suc close)) (close_digit y (z ∷ bs) are.second ∙ ap (option_map suc) (close_digit z bs are.third))

close_plain : (b : ℕ) (bs : List ℕ) → is_plain b ≡ true → close_by 0x22 false (b ∷ bs) ≡ option_map suc (close_by 0x22 false bs)
close_plain b bs e = rw (plain_no_quote b e, plain_no_backslash b e) refl

-- texts of bytes
abbrev pub AreBytes : List ℕ → Type 0
AreBytes text = All (λ b. b < 256) text

close_inner : (text rest : List ℕ) → AreBytes text → close_by 0x22 false (inner text ++ 0x22 ∷ rest) ≡ Some (length (inner text))
close_inner [] rest are = refl
close_inner (b ∷ bs) rest are =
    by_test (All-head (λ b. b < 256) b bs are) (close_inner bs rest (All-tail (λ b. b < 256) b bs are)) (is_plain b) refl
  where
    by_test : b < 256 → close_by 0x22 false (inner bs ++ 0x22 ∷ rest) ≡ Some (length (inner bs)) → (t : Bool) → is_plain b ≡ t → close_by 0x22 false ((cond t (b ∷ []) (octal_escape b) ++ inner bs) ++ 0x22 ∷ rest) ≡ Some (length (cond t (b ∷ []) (octal_escape b) ++ inner bs))
    by_test h more true e = close_plain b (inner bs ++ 0x22 ∷ rest) e ∙ ap (option_map suc) more
    by_test h more false e =
        close_escape b (inner bs ++ 0x22 ∷ rest) h
        ∙ ap (λ close. option_map suc (option_map suc (option_map suc (option_map suc close)))) more

escape_read : (b : ℕ) (x y z : ℕ) (rest : List ℕ) → AreDigits b x y z → b < 256 → escape_in (x ∷ y ∷ z ∷ rest) ≡ Some (b, 3)
unfolding escape_in
escape_read b x y z rest are h =
    cc (digit_octal x are.first, digit_octal y are.second, digit_octal z are.third, are.value, le-leb b 255 (omega arith))

unescaped_none : (n : ℕ) → unescaped_bytes n [] ≡ Some []
unescaped_none zero = refl
unescaped_none (suc n) = refl

unescaped_bytes_plain : (n b : ℕ) (bs : List ℕ) → is_plain b ≡ true → unescaped_bytes (suc n) (b ∷ bs) ≡ option_map (λ more. b ∷ more) (unescaped_bytes n bs)
unescaped_bytes_plain n b bs e =
    ap (λ t. option_and_then (before_rest (unescaped_bytes n)) (cond t (option_map (λ e. (e.0, drop e.1 bs)) (escape_in bs)) (Some (b, bs)))) (plain_no_backslash b e)

unescaped_bytes_escape : (n b : ℕ) (bs : List ℕ) → b < 256 → unescaped_bytes (suc n) (octal_escape b ++ bs) ≡ option_map (λ more. b ∷ more) (unescaped_bytes n bs)
unescaped_bytes_escape n b bs h =
    let x = 0x30 + b / 64 in
    let y = 0x30 + b / 8 % 8 in
    let z = 0x30 + b % 8 in
    ap (λ e. option_and_then (before_rest (unescaped_bytes n)) (option_map (λ e. (e.0, drop e.1 (x ∷ y ∷ z ∷ bs))) e)) (escape_read b x y z bs (digits_of b h) h)

-- what is escaped is read back
unescaped_bytes-inner : (text : List ℕ) (n : ℕ) → length text ≤ n → AreBytes text → unescaped_bytes n (inner text) ≡ Some text
unescaped_bytes-inner [] n h are = unescaped_none n
unescaped_bytes-inner (b ∷ bs) zero h are = absurd (omega arith)
unescaped_bytes-inner (b ∷ bs) (suc n) h are =
    by_test (All-head (λ b. b < 256) b bs are) (unescaped_bytes-inner bs n (omega arith) (All-tail (λ b. b < 256) b bs are)) (is_plain b) refl
  where
    by_test : b < 256 → unescaped_bytes n (inner bs) ≡ Some bs → (t : Bool) → is_plain b ≡ t → unescaped_bytes (suc n) (cond t (b ∷ []) (octal_escape b) ++ inner bs) ≡ Some (b ∷ bs)
    by_test h more true e = unescaped_bytes_plain n b (inner bs) e ∙ ap (option_map (λ more. b ∷ more)) more
    by_test h more false e = unescaped_bytes_escape n b (inner bs) h ∙ ap (option_map (λ more. b ∷ more)) more

length-inner : (text : List ℕ) → length text ≤ length (inner text)
length-inner [] = omega arith
length-inner (b ∷ bs) =
    let more = length-inner bs in
    let both = length-append (escape_of b) (inner bs) in
    let some = some_escaped (is_plain b) in
    omega arith
  where
    some_escaped : (t : Bool) → 1 ≤ length (cond t (b ∷ []) (octal_escape b))
    some_escaped true = omega arith
    some_escaped false = omega arith

escape_of_computed : agree_below (λ b. is_row (escape_of b) && list_all is_seen (escape_of b)) (λ b. true) 256 ≡ true
escape_of_computed = refl

inner_row : (text : List ℕ) → AreBytes text → is_row (inner text) ≡ true
inner_row [] are = refl
inner_row (b ∷ bs) are =
    row_append (escape_of b) (inner bs)
    (and_parts (is_row (escape_of b)) (list_all is_seen (escape_of b)) (agree_below_at (λ b. is_row (escape_of b) && list_all is_seen (escape_of b)) (λ b. true) 256 b escape_of_computed (All-head (λ b. b < 256) b bs are))).0
    (inner_row bs (All-tail (λ b. b < 256) b bs are))

pub quoted_text_row : (text : List ℕ) → AreBytes text → is_row (quoted_text text) ≡ true
quoted_text_row text are = grind (arith, codes, row_append, inner_row, is_row)

row_seen : (row : List ℕ) → is_row row ≡ true → list_all is_seen row ≡ true
row_seen [] e = refl
row_seen (b ∷ bs) e =
    let parts = and_parts (is_seen b) (goes_on b bs && is_row bs) e in
    and_from (is_seen b) (list_all is_seen bs) parts.0 (row_seen bs (and_parts (goes_on b bs) (is_row bs) parts.1).1)

-- the bytes behind the opening quote
closes : (text rest : List ℕ) (ps : List Placed) → bytes ps ≡ inner text ++ 0x22 ∷ rest → AreBytes text → close_at 0x22 false ps ≡ Some (length (inner text))
closes text rest ps e are = close_bytes 0x22 false ps ∙ ap (close_by 0x22 false) e ∙ close_inner text rest are

behind_quote : (text rest : List ℕ) → (inner text ++ codes "\"") ++ rest ≡ inner text ++ 0x22 ∷ rest
behind_quote text rest = append_assoc (inner text) (codes "\"") rest

quoted-len : (text rest : List ℕ) (p : Placed) (ps : List Placed) → p.byte ≡ 0x22 → bytes ps ≡ inner text ++ 0x22 ∷ rest → AreBytes text → quoted_len (p ∷ ps) ≡ suc (suc (length (inner text)))
quoted-len text rest p ps quote e are =
    cc (closes text rest ps e are)

length-quoted_text : (text : List ℕ) → length (quoted_text text) ≡ suc (suc (length (inner text)))
length-quoted_text text = let both = length-append (inner text) (codes "\"") in omega arith

word-len : (text rest : List ℕ) (p : Placed) (ps : List Placed) → p.byte ≡ 0x22 → bytes ps ≡ inner text ++ 0x22 ∷ rest → bytes (p ∷ ps) ≡ quoted_text text ++ rest → is_behind rest ≡ true → AreBytes text → word_len (p ∷ ps) ≡ length (quoted_text text)
word-len text rest p ps quote e all behind are =
    let n = length (quoted_text text) in
    let len : quoted_len (p ∷ ps) ≡ n = quoted-len text rest p ps quote e are ∙ sym (length-quoted_text text) in
    let none : prefix_len (λ (q : Placed). is_bare q.byte) (drop n (p ∷ ps)) ≡ 0 =
    prefix_len-bytes is_bare (drop n (p ∷ ps))
    ∙ ap (prefix_len is_bare) (sym (drop-map (λ (q : Placed). q.byte) n (p ∷ ps)) ∙ ap (drop n) all ∙ drop-append_seam (quoted_text text) rest)
    ∙ bare_none rest behind in
    ap (λ m. m + prefix_len (λ (q : Placed). is_bare q.byte) (drop m (p ∷ ps))) len
    ∙ (let sum : n + prefix_len (λ (q : Placed). is_bare q.byte) (drop n (p ∷ ps)) ≡ n = omega arith in sum)

quoted_in : (text rest : List ℕ) (p : Placed) (ps : List Placed) → p.byte ≡ 0x22 → bytes ps ≡ inner text ++ 0x22 ∷ rest → bytes (p ∷ ps) ≡ quoted_text text ++ rest → is_behind rest ≡ true → AreBytes text → WordIs (word_in (p ∷ ps)) (quoted_text text) rest
quoted_in text rest p ps quote e all behind are =
    word_in_is (p ∷ ps) (quoted_text text) rest all (word-len text rest p ps quote e all behind are)
    (let len = length-quoted_text text in λ (none : length (quoted_text text) ≡ 0). omega arith)
    (seen_ascii (quoted_text text) (row_seen (quoted_text text) (quoted_text_row text are)))

-- the next word is a text between quotes
pub quoted_text_of : (items : List Placed) (text : List ℕ) (ws : List (List ℕ)) → bytes items ≡ tail (quoted_text text ∷ ws) → AreBytes text → WordIs (word_at items) (quoted_text text) (tail ws)
quoted_text_of [] text ws e are = absurd (cc)
quoted_text_of (p ∷ []) text ws e are = absurd (cc)
quoted_text_of (p ∷ q ∷ qs) text ws e are =
    let blank : p.byte ≡ 0x20 = cc in
    let all : bytes (q ∷ qs) ≡ quoted_text text ++ tail ws = cc in
    let quote : q.byte ≡ 0x22 = cc in
    let more : bytes qs ≡ (inner text ++ codes "\"") ++ tail ws = cc in
    subst (λ read. WordIs read (quoted_text text) (tail ws))
    (sym (word_at_behind p (q ∷ qs) 0x22 ((inner text ++ codes "\"") ++ tail ws) blank all refl))
    (quoted_in text (tail ws) q qs quote (more ∙ behind_quote text (tail ws)) all (tail_behind ws) are)

-- the word stands for its text
pub text-of : (word : List Placed) (text : List ℕ) → bytes word ≡ quoted_text text → AreBytes text → text_of word ≡ Some text
unfolding text_of
text-of [] text e are = absurd (cc)
text-of (p ∷ ps) text e are =
    let quote : p.byte ≡ 0x22 = cc in
    let more : bytes ps ≡ inner text ++ codes "\"" = cc in
    let n = length (inner text) in
    let len : (suc n == length ps) ≡ true =
    grind (arith, eq-eqb, length-bytes, length-append, codes) in
    grind (arith, closes, take-append_seam, codes, unescaped_bytes-inner, length-inner)
