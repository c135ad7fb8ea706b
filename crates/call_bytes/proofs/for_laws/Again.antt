-- The table that is read from the bytes of a table is that table.
use Rattle.std.proofs.Common.{◌≡◌, ℕ, zero, suc, ◌+◌, ◌*◌, ◌/◌, ◌%◌, ◌<◌, Bool, true, ◌==◌, ◌&&◌, List, length, get_or, refl, sym, ap, ◌∙◌, arith, eq-eqb}
use Rattle.std.specs.Prelude.{map}
use Rattle.std.specs.Int.{to_le_bytes, w16}
use Rattle.std.specs.List.{list_all, range_with_len}
use Rattle.std.proofs.lemmas.List.{take_all}
use Rattle.std.proofs.lemmas.List.Elements.{All-get_or}
use Rattle.std.proofs.lemmas.Bool.{and_from}
use Rattle.call_bytes.proofs.for_laws.Blocks.{byte_of_piece, length_of_pieces, read_again}
use Rattle.call_bytes.proofs.Tables.{colours_read, pairs_read, words_read}
use Rattle.call_bytes.specs.Colours.{colour_at, colour_bytes, colours_text}
use Rattle.call_bytes.specs.Laws.{ColoursComeBack, IsPair, PairsComeBack, WordsComeBack}
use Rattle.call_bytes.specs.Numbers.{byte_at, is_number_at}
use Rattle.call_bytes.specs.Pairs.{is_pair_at, pair_at, pair_bytes, pairs_text}
use Rattle.call_bytes.specs.Words.{word_at, words_text}
use Rattle.vt_cells.specs.Colours.{Rgb}
use Rattle.key_syms.specs.declared.pair.Pair.{Pair}

all_hold : (p : ℕ → Bool) (from n : ℕ) → ((i : ℕ) → i < n → p (from + i) ≡ true) → list_all p (range_with_len from n) ≡ true
all_hold p from zero each = refl
all_hold p from (suc n) each =
    ap (λ b. b && list_all p (range_with_len (from + 1) n))
    (ap p (let e : from ≡ from + 0 = omega arith in e) ∙ each 0 (omega arith))
    ∙ all_hold p (from + 1) n
    (λ i h. ap p (let e : from + 1 + i ≡ from + suc i = omega arith in e) ∙ each (suc i) (omega arith))

-- of four bytes, or of two, the number that they were
number_same : (a b n : ℕ) → a ≡ n % 256 → b ≡ n / 256 % 256 → n < 65536 → a + 256 * b ≡ n
number_same a b n p q h = omega arith

high_zero : (b n : ℕ) → b ≡ n / 65536 % 256 → n < 65536 → (b == 0) ≡ true
high_zero b n e h = eq-eqb b 0 (omega arith)

higher_zero : (b n : ℕ) → b ≡ n / 16777216 % 256 → n < 65536 → (b == 0) ≡ true
higher_zero b n e h = eq-eqb b 0 (omega arith)

pair_same : (p q : Pair) → p.accent ≡ q.accent → p.base ≡ q.base → p.result ≡ q.result → p ≡ q
pair_same p q a b r = λ i. record { accent = a i; base = b i; result = r i }

-- byte j of pair i
pair_byte : (pairs : List Pair) (i : ℕ) (e : Pair) → i < length pairs → (j at : ℕ) → j < 12 → at ≡ 12 * i + j → byte_at (pairs_text pairs) at ≡ get_or (pair_bytes (get_or pairs i e)) j 0
pair_byte pairs i e h j at l is = byte_of_piece pair_bytes 12 (λ pair. refl) pairs i j at e h l is

pair_again : (pairs : List Pair) (i : ℕ) (e : Pair) → i < length pairs → IsPair (get_or pairs i e) → pair_at (pairs_text pairs) i ≡ get_or pairs i e
pair_again pairs i e h is =
    let pair : Pair = get_or pairs i e in
    let text = pairs_text pairs in
    pair_same (pair_at text i) pair
    (number_same (byte_at text (12 * i)) (byte_at text (12 * i + 1)) pair.accent
    (pair_byte pairs i e h 0 (12 * i) (omega arith) (omega arith))
    (pair_byte pairs i e h 1 (12 * i + 1) (omega arith) (omega arith)) is.accent)
    (number_same (byte_at text (12 * i + 4)) (byte_at text (12 * i + 4 + 1)) pair.base
    (pair_byte pairs i e h 4 (12 * i + 4) (omega arith) (omega arith))
    (pair_byte pairs i e h 5 (12 * i + 4 + 1) (omega arith) (omega arith)) is.base)
    (number_same (byte_at text (12 * i + 8)) (byte_at text (12 * i + 8 + 1)) pair.result
    (pair_byte pairs i e h 8 (12 * i + 8) (omega arith) (omega arith))
    (pair_byte pairs i e h 9 (12 * i + 8 + 1) (omega arith) (omega arith)) is.result)

number_fits : (text : List ℕ) (at n : ℕ) → byte_at text (at + 2) ≡ n / 65536 % 256 → byte_at text (at + 3) ≡ n / 16777216 % 256 → n < 65536 → is_number_at text at ≡ true
number_fits text at n p q h =
    and_from (byte_at text (at + 2) == 0) (byte_at text (at + 3) == 0) (high_zero (byte_at text (at + 2)) n p h)
    (higher_zero (byte_at text (at + 3)) n q h)

pair_fits : (pairs : List Pair) (i : ℕ) (e : Pair) → i < length pairs → IsPair (get_or pairs i e) → is_pair_at (pairs_text pairs) i ≡ true
pair_fits pairs i e h is =
    let pair : Pair = get_or pairs i e in
    let text = pairs_text pairs in
    and_from (is_number_at text (12 * i) && is_number_at text (12 * i + 4)) (is_number_at text (12 * i + 8))
    (and_from (is_number_at text (12 * i)) (is_number_at text (12 * i + 4))
    (number_fits text (12 * i) pair.accent (pair_byte pairs i e h 2 (12 * i + 2) (omega arith) (omega arith))
    (pair_byte pairs i e h 3 (12 * i + 3) (omega arith) (omega arith)) is.accent)
    (number_fits text (12 * i + 4) pair.base (pair_byte pairs i e h 6 (12 * i + 4 + 2) (omega arith) (omega arith))
    (pair_byte pairs i e h 7 (12 * i + 4 + 3) (omega arith) (omega arith)) is.base))
    (number_fits text (12 * i + 8) pair.result (pair_byte pairs i e h 10 (12 * i + 8 + 2) (omega arith) (omega arith))
    (pair_byte pairs i e h 11 (12 * i + 8 + 3) (omega arith) (omega arith)) is.result)

some_pair : Pair
some_pair = record { accent = 0; base = 0; result = 0 }

pub pairs_again : PairsComeBack
pairs_again pairs few each =
    let text = pairs_text pairs in
    let long : length text ≡ 12 * length pairs = length_of_pieces pair_bytes 12 (λ pair. refl) pairs in
    let count : length pairs ≡ length text / 12 = omega arith in
    let is = λ (i : ℕ) (e : Pair) (h : i < length pairs). All-get_or IsPair pairs i e h each in
    let fit : list_all (is_pair_at text) (range_with_len 0 (length pairs)) ≡ true =
    all_hold (is_pair_at text) 0 (length pairs)
    (λ i h. ap (is_pair_at text) (let z : 0 + i ≡ i = omega arith in z) ∙ pair_fits pairs i some_pair h (is i some_pair h)) in
    let same : map (pair_at text) (range_with_len 0 (length pairs)) ≡ pairs =
    read_again (pair_at text) pairs 0
    (λ i e h. ap (pair_at text) (let z : 0 + i ≡ i = omega arith in z) ∙ pair_again pairs i e h (is i e h)) in
    sym (pairs_read text pairs (omega arith) (omega arith)
    (ap (λ n. list_all (is_pair_at text) (range_with_len 0 n)) (sym count) ∙ fit)
    (sym same ∙ ap (λ n. map (pair_at text) (range_with_len 0 n)) count))

word_again : (words : List ℕ) (i e : ℕ) → i < length words → get_or words i e < 65536 → word_at (words_text words) i ≡ get_or words i e
word_again words i e h small =
    let text = words_text words in
    number_same (get_or text (2 * i) 0) (get_or text (2 * i + 1) 0) (get_or words i e)
    (byte_of_piece (to_le_bytes w16) 2 (λ n. refl) words i 0 (2 * i) e h (omega arith) (omega arith))
    (byte_of_piece (to_le_bytes w16) 2 (λ n. refl) words i 1 (2 * i + 1) e h (omega arith) (omega arith)) small

pub words_again : WordsComeBack
words_again words tall each =
    let text = words_text words in
    let long : length text ≡ 2 * length words = length_of_pieces (to_le_bytes w16) 2 (λ n. refl) words in
    let same : map (word_at text) (range_with_len 0 (length words)) ≡ words =
    read_again (word_at text) words 0
    (λ i e h. ap (word_at text) (let z : 0 + i ≡ i = omega arith in z)
    ∙ word_again words i e h (All-get_or (λ word. word < 65536) words i e h each)) in
    sym (words_read text words (length words) (omega arith) (omega arith) (omega arith) (take_all (length words) words (omega arith) ∙ sym same))

colour_again : (colours : List Rgb) (i : ℕ) (e : Rgb) → i < length colours → colour_at (colours_text colours) i ≡ get_or colours i e
colour_again colours i e h =
    let red = byte_of_piece colour_bytes 3 (λ colour. refl) colours i 0 (3 * i) e h (omega arith) (omega arith) in
    let green = byte_of_piece colour_bytes 3 (λ colour. refl) colours i 1 (3 * i + 1) e h (omega arith) (omega arith) in
    let blue = byte_of_piece colour_bytes 3 (λ colour. refl) colours i 2 (3 * i + 2) e h (omega arith) (omega arith) in
    λ j. (red j, green j, blue j)

pub colours_again : ColoursComeBack
colours_again colours tall =
    let text = colours_text colours in
    let long : length text ≡ 3 * length colours = length_of_pieces colour_bytes 3 (λ colour. refl) colours in
    let same : map (colour_at text) (range_with_len 0 (length colours)) ≡ colours =
    read_again (colour_at text) colours 0
    (λ i e h. ap (colour_at text) (let z : 0 + i ≡ i = omega arith in z) ∙ colour_again colours i e h) in
    sym (colours_read text colours (length colours) (omega arith) (omega arith) (omega arith) (take_all (length colours) colours (omega arith) ∙ sym same))
