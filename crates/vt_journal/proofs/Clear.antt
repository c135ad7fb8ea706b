-- Words have no blanks and no line ends, so they are found again in their text.
use Rattle.std.proofs.Common.{◌≡◌, ◌≢◌, ℕ, ◌+◌, ◌/◌, ◌%◌, ◌<◌, ◌^◌, Bool, true, false, ◌&&◌, eqb, ltb, cond, Option, Some, None, List, [], ◌∷◌, ◌++◌, map, suc, decimal, refl, ap, ◌∙◌, arith}
use Rattle.std.specs.List.{All, list_all, flat_map}
use Rattle.std.proofs.lemmas.Bool.{and_parts, lt-ltb, ltb-true, ne_eqb}
use Rattle.std.proofs.lemmas.Fmt.{decimal_by_steps}
use Rattle.std.proofs.lemmas.List.Elements.{All-append, All-cons, All-nil, All-weaker}
use Rattle.std.proofs.lemmas.List.Folds.{list_all-append}
use Rattle.std.proofs.lemmas.List.Splits.{slice_split_at, slice_split_none}
use Rattle.std.proofs.lemmas.List.Sums.{AllPass-from_list_all}
use Rattle.vt_events.specs.Calls.{held_of, kind_of, numbers_of}
use Rattle.vt_events.specs.Kinds.{name_of}
use Rattle.vt_events.specs.declared.event.Event.{Event}
use Rattle.vt_events.specs.declared.kind.Kind.{Kind}
use Rattle.vt_events.specs.declared.kind.Kind.TheVariants as calls
use Rattle.vt_journal.specs.Cut.{words_of_text}
use Rattle.vt_base.specs.Digits.{hex_byte, hex_digit}
use Rattle.vt_journal.specs.Lines.{IsLine}
use Rattle.vt_journal.specs.Text.{blank_before_each}
use Rattle.vt_journal.specs.Words.{IsFit, event_words, held_words, joined_by_blanks}
use Rattle.vt_journal.proofs.Lines.{joined_by_blanks-cons}

-- each byte is above that of a blank
abbrev pub is_clear : List ℕ → Bool
is_clear word = list_all (λ b. ltb 0x20 b) word

-- each of these words is clear
abbrev pub are_clear : List (List ℕ) → Bool
are_clear words = list_all is_clear words

all_above : (word : List ℕ) → is_clear word ≡ true → All (λ b. 0x20 < b) word
all_above word is =
    All-weaker (λ b. ltb 0x20 b ≡ true) (λ b. 0x20 < b) (λ b above. ltb-true 0x20 b above) word
    (AllPass-from_list_all (λ b. ltb 0x20 b) word is)

other : (b n : ℕ) → n < b → b ≡ n → ⊥
other b n above same = omega (arith, above, same)

-- no blank at any place
no_blank : (word : List ℕ) → is_clear word ≡ true → All (λ b. eqb b 0x20 ≡ false) word
no_blank word is =
    All-weaker (λ b. 0x20 < b) (λ b. eqb b 0x20 ≡ false)
    (λ b above. ne_eqb b 0x20 (other b 0x20 above)) word (all_above word is)

-- and no line end
line_of_word : (word : List ℕ) → is_clear word ≡ true → IsLine word
line_of_word word is =
    All-weaker (λ b. 0x20 < b) (λ b. b ≢ 0x0A)
    (λ b above. other b 0x0A (omega (arith, above))) word (all_above word is)

line_of_words : (words : List (List ℕ)) → are_clear words ≡ true → IsLine (blank_before_each words)
line_of_words [] is = All-nil (λ b. b ≢ 0x0A)
line_of_words (word ∷ words) is =
    let both = and_parts (is_clear word) (are_clear words) is in
    All-cons (λ b. b ≢ 0x0A) 0x20 (word ++ blank_before_each words) (λ same. omega (arith, same))
    (All-append (λ b. b ≢ 0x0A) word (blank_before_each words) (line_of_word word both.0)
    (line_of_words words both.1))

-- the words of a line: there is one, and each is clear
abbrev pub is_clear_line : List (List ℕ) → Bool
is_clear_line [] = false
is_clear_line (word ∷ words) = are_clear (word ∷ words)

-- spelled words are a line
pub line_joined_by_blanks : (words : List (List ℕ)) → is_clear_line words ≡ true → IsLine (joined_by_blanks words)
line_joined_by_blanks [] clear = cc
line_joined_by_blanks (word ∷ words) clear =
    let both = and_parts (is_clear word) (are_clear words) clear in
    rw (joined_by_blanks-cons word words)
    (All-append (λ b. b ≢ 0x0A) word (blank_before_each words) (line_of_word word both.0)
    (line_of_words words both.1))

-- words are found again in their text
pub words_of_text-joined_by_blanks : (words : List (List ℕ)) → is_clear_line words ≡ true
    → words_of_text (joined_by_blanks words) ≡ words
words_of_text-joined_by_blanks [] clear = cc
words_of_text-joined_by_blanks (word ∷ []) clear =
    slice_split_none (λ b. eqb b 0x20) word (no_blank word (and_parts (is_clear word) true clear).0)
words_of_text-joined_by_blanks (word ∷ next ∷ words) clear =
    let both = and_parts (is_clear word) (are_clear (next ∷ words)) clear in
    slice_split_at (λ b. eqb b 0x20) word 0x20 (joined_by_blanks (next ∷ words)) (no_blank word both.0) refl
    ∙ ap (λ rest. word ∷ rest) (words_of_text-joined_by_blanks (next ∷ words) both.1)

-- words after words
pub are_clear-append : (u v : List (List ℕ)) → are_clear u ≡ true → are_clear v ≡ true
    → are_clear (u ++ v) ≡ true
are_clear-append u v first others = list_all-append is_clear u v ∙ (λ j. first j && others j)

-- names are clear
is_clear_name : (k : Kind) → is_clear (name_of k) ≡ true
is_clear_name calls.Exit = refl
is_clear_name k = refl

-- each byte is a digit or above one
abbrev pub is_high : List ℕ → Bool
is_high word = list_all (λ b. ltb 0x2F b) word

pub is_clear_high : (word : List ℕ) → is_high word ≡ true → is_clear word ≡ true
is_clear_high [] high = refl
is_clear_high (b ∷ word) high =
    let both = and_parts (ltb 0x2F b) (is_high word) high in
    let above : ltb 0x20 b ≡ true = lt-ltb 0x20 b (omega (arith, ltb-true 0x2F b both.0)) in
    λ j. above j && is_clear_high word both.1 j

pub is_high-decimal : (n : ℕ) → n < 2 ^ 64 → is_high (decimal n) ≡ true
is_high-decimal =
    decimal_by_steps (λ _ digits. is_high digits ≡ true) (λ n below. digit n)
    (λ n digits above others.
    list_all-append (λ b. ltb 0x2F b) digits ((48 + n % 10) ∷ [])
    ∙ (λ j. others j && digit (n % 10) j))
  where
    digit : (n : ℕ) → is_high ((48 + n) ∷ []) ≡ true
    digit n = ap (λ b. b && true) (lt-ltb 0x2F (48 + n) (omega arith))

-- numbers are clear
pub is_clear-decimal : (n : ℕ) → n < 2 ^ 64 → is_clear (decimal n) ≡ true
is_clear-decimal n fits = is_clear_high (decimal n) (is_high-decimal n fits)

-- lists of numbers are clear
pub are_clear_decimals : (ns : List ℕ) → All (λ n. n < 2 ^ 64) ns
    → are_clear (map decimal ns) ≡ true
are_clear_decimals [] fit = refl
are_clear_decimals (n ∷ ns) fit =
    λ j.
    is_clear-decimal n (fit 0 0 (omega arith)) j
    && are_clear_decimals ns (λ k d within. fit (suc k) d (omega arith)) j

-- a hexadecimal digit is no blank
hex_digit_clear : (n : ℕ) → ltb 0x20 (hex_digit n) ≡ true
hex_digit_clear n = by_test (ltb n 10)
  where
    by_test : (r : Bool) → ltb 0x20 (cond r (0x30 + n) (0x57 + n)) ≡ true
    by_test true = lt-ltb 0x20 (0x30 + n) (omega arith)
    by_test false = lt-ltb 0x20 (0x57 + n) (omega arith)

is_clear_pairs : (bytes : List ℕ) → is_clear (flat_map hex_byte bytes) ≡ true
is_clear_pairs [] = refl
is_clear_pairs (b ∷ bytes) =
    λ j. hex_digit_clear (b / 16) j && (hex_digit_clear (b % 16) j && is_clear_pairs bytes j)

-- bytes are clear
pub are_clear_held : (held : Option (List ℕ)) → are_clear (held_words held) ≡ true
are_clear_held None = refl
are_clear_held (Some []) = refl
are_clear_held (Some (b ∷ bytes)) = ap (λ r. r && true) (is_clear_pairs (b ∷ bytes))

below_wide : (n : ℕ) → n < 2 ^ 16 → n < 2 ^ 64
below_wide n below = omega (arith, below)

-- numbers of 16 bits have 64
pub wide : (ns : List ℕ) → All (λ n. n < 2 ^ 16) ns → All (λ n. n < 2 ^ 64) ns
wide ns fit = All-weaker (λ n. n < 2 ^ 16) (λ n. n < 2 ^ 64) below_wide ns fit

-- all words of a call are clear
pub are_clear-event : (e : Event) → IsFit e → are_clear (event_words e) ≡ true
are_clear-event e fit =
    let others =
    are_clear-append (map decimal (numbers_of e)) (held_words (held_of e))
    (are_clear_decimals (numbers_of e) (wide (numbers_of e) fit.numbers)) (are_clear_held (held_of e)) in
    λ j. is_clear_name (kind_of e) j && others j
