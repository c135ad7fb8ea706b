-- The next word of a row, by the row's bytes.
use Rattle.std.proofs.Common.{◌≡◌, ◌≢◌, ℕ, zero, suc, ◌+◌, ◌≤◌, Bool, true, false, ◌==◌, ◌&&◌, not, leb, cond, Option, Some, Ok, List, [], ◌∷◌, ◌++◌, drop, length, take, refl, sym, ap, ◌∙◌, arith, rules}
use Rattle.std.proofs.Math.Seq.{drop-append_seam, take-append_seam}
use Rattle.std.proofs.lemmas.Bool.{and_from, and_parts, eq-eqb, eqb-true, leb-true, ne_eqb}
use Rattle.std.proofs.lemmas.Bool.Decides.{nat_tests}
use Rattle.std.proofs.lemmas.List.{drop-map, take-map}
use Rattle.std.proofs.lemmas.Str.{IsUtf8-from_ascii, utf8_valid_len-IsUtf8}
use Rattle.std.specs.List.{list_all, prefix_len}
use Rattle.std.specs.Str.{IsAscii}
use Rattle.std.specs.Str.Lossy.{utf8_valid_len}
use Rattle.key_text.specs.Words.{bytes, is_bare, is_blank, is_quote, quoted_len, whole, word_at, word_in, word_len}
use Rattle.key_text.specs.declared.placed.Placed.{Placed}

-- a byte of ASCII that is seen, or a blank
abbrev pub is_seen : ℕ → Bool
is_seen b = leb 0x20 b && leb b 0x7E

-- a byte that is no blank, no quote, no backslash and begins no comment
abbrev pub is_word_byte : ℕ → Bool
is_word_byte b = leb 0x28 b && leb b 0x7E && not (b == 0x5C)

-- a word without quotes
abbrev pub is_word_text : List ℕ → Bool
is_word_text [] = false
is_word_text (b ∷ bs) = is_word_byte b && list_all is_word_byte bs

-- a word ends before these bytes
abbrev pub is_behind : List ℕ → Bool
is_behind [] = true
is_behind (b ∷ bs) = b == 0x20

pub word_byte_low : (b : ℕ) → is_word_byte b ≡ true → 0x28 ≤ b
word_byte_low b e = leb-true 0x28 b (and_parts (leb 0x28 b) (leb b 0x7E) (and_parts (leb 0x28 b && leb b 0x7E) (not (b == 0x5C)) e).0).0

pub word_byte_seen : (b : ℕ) → is_word_byte b ≡ true → is_seen b ≡ true
word_byte_seen b e =
    search (rules, word_byte_low, and_parts, nat_tests)

pub all_seen : (text : List ℕ) → list_all is_word_byte text ≡ true → list_all is_seen text ≡ true
all_seen [] e = refl
all_seen (b ∷ bs) e =
    let parts = and_parts (is_word_byte b) (list_all is_word_byte bs) e in
    and_from (is_seen b) (list_all is_seen bs) (word_byte_seen b parts.0) (all_seen bs parts.1)

pub seen_ascii : (text : List ℕ) → list_all is_seen text ≡ true → IsAscii text
seen_ascii [] e i = omega arith
seen_ascii (b ∷ bs) e zero =
    search (rules, and_parts, leb-true)
seen_ascii (b ∷ bs) e (suc i) = seen_ascii bs (and_parts (is_seen b) (list_all is_seen bs) e).1 i

is_bare_from : (b : ℕ) → 0x28 ≤ b → is_bare b ≡ true
is_bare_from b h = grind (arith, nat_tests)

is_blank_from : (b : ℕ) → 0x28 ≤ b → is_blank b ≡ false
is_blank_from b h = grind (arith, nat_tests)

is_quote_from : (b : ℕ) → 0x28 ≤ b → is_quote b ≡ false
is_quote_from b h = grind (arith, nat_tests)

pub prefix_len-bytes : (test : ℕ → Bool) (items : List Placed) → prefix_len (λ p. test p.byte) items ≡ prefix_len test (bytes items)
prefix_len-bytes test [] = refl
prefix_len-bytes test (p ∷ ps) = ap (λ n. cond (test p.byte) (1 + n) 0) (prefix_len-bytes test ps)

pub length-bytes : (items : List Placed) → length (bytes items) ≡ length items
length-bytes [] = refl
length-bytes (p ∷ ps) = ap (λ n. suc n) (length-bytes ps)

pub bare_none : (rest : List ℕ) → is_behind rest ≡ true → prefix_len is_bare rest ≡ 0
bare_none [] e = refl
bare_none (b ∷ bs) e = rw (eqb-true b 0x20 e) refl

bare_all : (text rest : List ℕ) → list_all is_word_byte text ≡ true → is_behind rest ≡ true → prefix_len is_bare (text ++ rest) ≡ length text
bare_all [] rest e behind = bare_none rest behind
bare_all (b ∷ bs) rest e behind =
    let parts = and_parts (is_word_byte b) (list_all is_word_byte bs) e in
    ap (λ t. cond t (1 + prefix_len is_bare (bs ++ rest)) 0) (is_bare_from b (word_byte_low b parts.0))
    ∙ (let more = bare_all bs rest parts.1 behind in
    let count : 1 + prefix_len is_bare (bs ++ rest) ≡ suc (length bs) = omega arith in count)

-- a word that is read: the word and what is left
pub record WordIs (read : Option (List Placed × List Placed)) (text rest : List ℕ) : Type 0 where
  pub word : List Placed
  pub left : List Placed
  pub found : read ≡ Some (word, left)
  pub good : whole (word, left) ≡ Ok (word, left)
  pub spells : bytes word ≡ text
  pub leaves : bytes left ≡ rest

whole_is : (word left : List Placed) (text : List ℕ) → bytes word ≡ text → IsAscii text → whole (word, left) ≡ Ok (word, left)
unfolding whole
whole_is word left text spells ascii =
    grind (arith, utf8_valid_len-IsUtf8, IsUtf8-from_ascii, length-bytes, eq-eqb)

-- a word of this length begins the items
pub word_in_is : (items : List Placed) (text rest : List ℕ) → bytes items ≡ text ++ rest → word_len items ≡ length text → length text ≢ 0 → IsAscii text → WordIs (word_in items) text rest
word_in_is items text rest e len some ascii =
    let n = length text in
    let spelled : bytes (take n items) ≡ text = sym (take-map (λ (p : Placed). p.byte) n items) ∙ ap (take n) e ∙ take-append_seam text rest in
    let left_over : bytes (drop n items) ≡ rest = sym (drop-map (λ (p : Placed). p.byte) n items) ∙ ap (drop n) e ∙ drop-append_seam text rest in
    record {
      word = take n items;
      left = drop n items;
      found =
          cc (ne_eqb n 0 some);
      good = whole_is (take n items) (drop n items) text spelled ascii;
      spells = spelled;
      leaves = left_over;
    }

no_quote : (items : List Placed) (b : ℕ) (bs : List ℕ) → bytes items ≡ b ∷ bs → 0x28 ≤ b → quoted_len items ≡ 0
no_quote [] b bs e h = absurd (cc)
no_quote (p ∷ ps) b bs e h =
    grind (arith, is_quote_from)

plain_len : (items : List Placed) (text rest : List ℕ) → bytes items ≡ text ++ rest → is_word_text text ≡ true → is_behind rest ≡ true → word_len items ≡ length text
plain_len items [] rest e word behind = absurd (cc)
plain_len items (b ∷ bs) rest e word behind =
    let low = word_byte_low b (and_parts (is_word_byte b) (list_all is_word_byte bs) word).0 in
    let none = no_quote items b (bs ++ rest) e low in
    ap (λ n. n + prefix_len (λ p. is_bare p.byte) (drop n items)) none
    ∙ (let bare : prefix_len (λ p. is_bare p.byte) (drop 0 items) ≡ suc (length bs) = prefix_len-bytes is_bare items ∙ ap (prefix_len is_bare) e ∙ bare_all (b ∷ bs) rest word behind in
    let sum : 0 + prefix_len (λ p. is_bare p.byte) (drop 0 items) ≡ suc (length bs) = omega arith in sum)

word_text_some : (text : List ℕ) → is_word_text text ≡ true → length text ≢ 0
word_text_some [] e none = cc
word_text_some (b ∷ bs) e none = omega arith

pub word_text_all : (text : List ℕ) → is_word_text text ≡ true → list_all is_word_byte text ≡ true
word_text_all [] e = refl
word_text_all (b ∷ bs) e = e

plain_in : (items : List Placed) (text rest : List ℕ) → bytes items ≡ text ++ rest → is_word_text text ≡ true → is_behind rest ≡ true → WordIs (word_in items) text rest
plain_in items text rest e word behind =
    search (rules, word_in_is, plain_len, word_text_some, seen_ascii, all_seen, word_text_all)

-- no blank stands before a word
no_blank : (items : List Placed) (b : ℕ) (bs : List ℕ) → bytes items ≡ b ∷ bs → is_blank b ≡ false → prefix_len (λ p. is_blank p.byte) items ≡ 0
no_blank items b bs e seen = prefix_len-bytes is_blank items ∙ ap (prefix_len is_blank) e ∙ ap (λ t. cond t (1 + prefix_len is_blank bs) 0) seen

pub word_at_here : (items : List Placed) (b : ℕ) (bs : List ℕ) → bytes items ≡ b ∷ bs → is_blank b ≡ false → word_at items ≡ word_in items
unfolding word_at
word_at_here items b bs e seen = ap (λ n. word_in (drop n items)) (no_blank items b bs e seen)

pub word_at_behind : (p : Placed) (ps : List Placed) (b : ℕ) (bs : List ℕ) → p.byte ≡ 0x20 → bytes ps ≡ b ∷ bs → is_blank b ≡ false → word_at (p ∷ ps) ≡ word_in ps
unfolding word_at
word_at_behind p ps b bs blank e seen =
    cc (no_blank ps b bs e seen)

-- the word that begins the items
pub first_word : (items : List Placed) (text rest : List ℕ) → bytes items ≡ text ++ rest → is_word_text text ≡ true → is_behind rest ≡ true → WordIs (word_at items) text rest
first_word items [] rest e word behind = absurd (cc)
first_word items (b ∷ bs) rest e word behind =
    grind (arith, word_byte_low, and_parts, word_at_here, is_blank_from, plain_in)

-- the word behind a blank
pub next_word : (items : List Placed) (text rest : List ℕ) → bytes items ≡ 0x20 ∷ (text ++ rest) → is_word_text text ≡ true → is_behind rest ≡ true → WordIs (word_at items) text rest
next_word [] text rest e word behind = absurd (cc)
next_word (p ∷ ps) [] rest e word behind = absurd (cc)
next_word (p ∷ ps) (b ∷ bs) rest e word behind =
    grind (arith, word_byte_low, and_parts, word_at_behind, is_blank_from, plain_in)
