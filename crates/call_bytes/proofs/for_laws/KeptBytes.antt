-- The bytes that are written from a table equal the bytes that it was read from.
use Rattle.call_bytes.proofs.for_laws.Blocks.{cons_same}
use Rattle.std.proofs.Common.{◌≡◌, ℕ, zero, suc, ◌+◌, ◌*◌, ◌/◌, ◌%◌, ◌<◌, ◌≤◌, Bool, true, ◌==◌, ◌&&◌, nat_le, List, [], ◌∷◌, ◌++◌, length, take, drop, drop-cons, sym, ap, ◌∙◌, arith}
use Rattle.std.specs.Prelude.{map}
use Rattle.std.specs.Int.{to_le_bytes, w16, w32}
use Rattle.std.specs.List.{flat_map, list_all, range_with_len}
use Rattle.std.proofs.lemmas.Bool.{and_parts, eqb-true}
use Rattle.std.proofs.lemmas.List.{drop-drop, drop_all, take-append-drop}
use Rattle.std.proofs.lemmas.List.Elements.{All-get_or}
use Rattle.std.proofs.lemmas.Option.{cond_some}
use Rattle.call_bytes.specs.Colours.{colour_at, colour_bytes, colours_text}
use Rattle.call_bytes.specs.Kept.{AreBytes, ColoursAreKept, PairsAreKept, WordsAreKept}
use Rattle.call_bytes.specs.Numbers.{byte_at, is_number_at, number_at}
use Rattle.call_bytes.specs.Pairs.{are_pairs, is_pair_at, pair_at, pair_bytes, pairs_text}
use Rattle.call_bytes.specs.Words.{word_at, words_text}

-- pieces that are the bytes at their places
further : (each from : ℕ) (bytes : List ℕ) → drop each (drop (each * from) bytes) ≡ drop (each * (from + 1)) bytes
further each from bytes = drop-drop each (each * from) bytes ∙ ap (λ n. drop n bytes) (let e : each * from + each ≡ each * (from + 1) = omega arith in e)

pieces_kept : {X : Type 0} (f : X → List ℕ) (read : ℕ → X) (each : ℕ) (bytes : List ℕ) (n from : ℕ) → length bytes ≡ each * (from + n)
    → ((i : ℕ) → i < from + n → f (read i) ≡ take each (drop (each * i) bytes)) → flat_map f (map read (range_with_len from n)) ≡ drop (each * from) bytes
pieces_kept f read each bytes zero from long same = sym (drop_all (each * from) bytes (let e : each * (from + 0) ≡ each * from = omega arith in omega (arith, long, e)))
pieces_kept f read each bytes (suc n) from long same =
    ap (λ front. front ++ flat_map f (map read (range_with_len (from + 1) n))) (same from (omega arith))
    ∙ ap (λ rest. take each (drop (each * from) bytes) ++ rest)
    (pieces_kept f read each bytes n (from + 1) (long ∙ ap (λ m. each * m) (let e : from + suc n ≡ from + 1 + n = omega arith in e))
    (λ i h. same i (omega (arith, h)))
    ∙ sym (further each from bytes))
    ∙ take-append-drop each (drop (each * from) bytes)

-- the bytes from a place on
byte_first : (bytes : List ℕ) (k : ℕ) → k < length bytes → drop k bytes ≡ byte_at bytes k ∷ drop (k + 1) bytes
byte_first bytes k h = drop-cons bytes k 0 h ∙ ap (λ n. byte_at bytes k ∷ drop n bytes) (let e : suc k ≡ k + 1 = omega arith in e)

two_first : (bytes : List ℕ) (k : ℕ) → k + 2 ≤ length bytes → take 2 (drop k bytes) ≡ byte_at bytes k ∷ byte_at bytes (k + 1) ∷ []
two_first bytes k h =
    ap (take 2) (byte_first bytes k (omega arith))
    ∙ ap (λ rest. byte_at bytes k ∷ take 1 rest) (byte_first bytes (k + 1) (omega arith))

three_first : (bytes : List ℕ) (k : ℕ) → k + 3 ≤ length bytes → take 3 (drop k bytes) ≡ byte_at bytes k ∷ byte_at bytes (k + 1) ∷ byte_at bytes (k + 2) ∷ []
three_first bytes k h =
    ap (take 3) (byte_first bytes k (omega arith))
    ∙ ap (λ rest. byte_at bytes k ∷ take 2 rest) (byte_first bytes (k + 1) (omega arith))
    ∙ ap (λ rest. byte_at bytes k ∷ byte_at bytes (k + 1) ∷ take 1 rest) (ap (λ n. drop n bytes) (let e : k + 1 + 1 ≡ k + 2 = omega arith in e) ∙ byte_first bytes (k + 2) (omega arith))

four_first : (bytes : List ℕ) (k n : ℕ) → k + 4 ≤ length bytes → take (4 + n) (drop k bytes) ≡ (byte_at bytes k ∷ byte_at bytes (k + 1) ∷ byte_at bytes (k + 2) ∷ byte_at bytes (k + 3) ∷ []) ++ take n (drop (k + 4) bytes)
four_first bytes k n h =
    ap (λ m. take m (drop k bytes)) (let e : 4 + n ≡ suc (suc (suc (suc n))) = omega arith in e)
    ∙ ap (take (suc (suc (suc (suc n))))) (byte_first bytes k (omega arith))
    ∙ ap (λ rest. byte_at bytes k ∷ take (suc (suc (suc n))) rest) (byte_first bytes (k + 1) (omega arith))
    ∙ ap (λ rest. byte_at bytes k ∷ byte_at bytes (k + 1) ∷ take (suc (suc n)) rest) (ap (λ m. drop m bytes) (let e : k + 1 + 1 ≡ k + 2 = omega arith in e) ∙ byte_first bytes (k + 2) (omega arith))
    ∙ ap (λ rest. byte_at bytes k ∷ byte_at bytes (k + 1) ∷ byte_at bytes (k + 2) ∷ take (suc n) rest) (ap (λ m. drop m bytes) (let e : k + 2 + 1 ≡ k + 3 = omega arith in e) ∙ byte_first bytes (k + 3) (omega arith))
    ∙ ap (λ m. byte_at bytes k ∷ byte_at bytes (k + 1) ∷ byte_at bytes (k + 2) ∷ byte_at bytes (k + 3) ∷ take n (drop m bytes)) (let e : k + 3 + 1 ≡ k + 4 = omega arith in e)

small : (bytes : List ℕ) (k : ℕ) → AreBytes bytes → k < length bytes → byte_at bytes k < 256
small bytes k are h = All-get_or (λ b. b < 256) bytes k 0 h are

low_byte : (a b : ℕ) → a < 256 → (a + 256 * b) % 256 ≡ a
low_byte a b h = omega arith

next_byte : (a b : ℕ) → a < 256 → b < 256 → (a + 256 * b) / 256 % 256 ≡ b
next_byte a b h k = omega arith

third_byte : (a b : ℕ) → a < 256 → b < 256 → (a + 256 * b) / 65536 % 256 ≡ 0
third_byte a b h k = omega arith

fourth_byte : (a b : ℕ) → a < 256 → b < 256 → (a + 256 * b) / 16777216 % 256 ≡ 0
fourth_byte a b h k = omega arith

two_written : (a b : ℕ) → a < 256 → b < 256 → to_le_bytes w16 (a + 256 * b) ≡ a ∷ b ∷ []
two_written a b h k =
    cons_same ((a + 256 * b) % 256) a (((a + 256 * b) / 256 % 256) ∷ []) (b ∷ []) (low_byte a b h)
    (ap (λ x. x ∷ []) (next_byte a b h k))

four_written : (a b c d : ℕ) → a < 256 → b < 256 → c ≡ 0 → d ≡ 0 → to_le_bytes w32 (a + 256 * b) ≡ a ∷ b ∷ c ∷ d ∷ []
four_written a b c d h k z w =
    let n = a + 256 * b in
    cons_same (n % 256) a ((n / 256 % 256) ∷ (n / 65536 % 256) ∷ (n / 16777216 % 256) ∷ []) (b ∷ c ∷ d ∷ []) (low_byte a b h)
    (cons_same (n / 256 % 256) b ((n / 65536 % 256) ∷ (n / 16777216 % 256) ∷ []) (c ∷ d ∷ []) (next_byte a b h k)
    (cons_same (n / 65536 % 256) c ((n / 16777216 % 256) ∷ []) (d ∷ []) (third_byte a b h k ∙ sym z)
    (ap (λ x. x ∷ []) (fourth_byte a b h k ∙ sym w))))

each_holds : (p : ℕ → Bool) (n from : ℕ) → list_all p (range_with_len from n) ≡ true → (i : ℕ) → i < n → p (from + i) ≡ true
each_holds p zero from all i h = absurd (omega (arith, h))
each_holds p (suc n) from all zero h = ap p (let e : from + 0 ≡ from = omega arith in e) ∙ (and_parts (p from) (list_all p (range_with_len (from + 1) n)) all).0
each_holds p (suc n) from all (suc i) h =
    ap p (let e : from + suc i ≡ from + 1 + i = omega arith in e)
    ∙ each_holds p n (from + 1) ((and_parts (p from) (list_all p (range_with_len (from + 1) n)) all).1) i (omega (arith, h))

pub words_kept : WordsAreKept
words_kept bytes words are read =
    let w = cond_some (length bytes == 512) (map (word_at bytes) (range_with_len 0 (length bytes / 2))) words read in
    let long : length bytes ≡ 512 = eqb-true (length bytes) 512 w.0 in
    let half : length bytes / 2 ≡ 256 = omega (arith, long) in
    ap words_text (sym w.1)
    ∙ ap (λ n. words_text (map (word_at bytes) (range_with_len 0 n))) half
    ∙ pieces_kept (to_le_bytes w16) (word_at bytes) 2 bytes 256 0 long
    (λ i h. two_written (byte_at bytes (2 * i)) (byte_at bytes (2 * i + 1))
    (small bytes (2 * i) are (omega (arith, long, h))) (small bytes (2 * i + 1) are (omega (arith, long, h)))
    ∙ sym (two_first bytes (2 * i) (omega (arith, long, h))))

pub colours_kept : ColoursAreKept
colours_kept bytes colours are read =
    let w = cond_some (length bytes == 48) (map (colour_at bytes) (range_with_len 0 (length bytes / 3))) colours read in
    let long : length bytes ≡ 48 = eqb-true (length bytes) 48 w.0 in
    let third : length bytes / 3 ≡ 16 = omega (arith, long) in
    ap colours_text (sym w.1)
    ∙ ap (λ n. colours_text (map (colour_at bytes) (range_with_len 0 n))) third
    ∙ pieces_kept colour_bytes (colour_at bytes) 3 bytes 16 0 long
    (λ i h. sym (three_first bytes (3 * i) (omega (arith, long, h))))

-- one number of a pair
number_kept : (bytes : List ℕ) (k n : ℕ) → AreBytes bytes → k + 4 ≤ length bytes → is_number_at bytes k ≡ true → take (4 + n) (drop k bytes) ≡ to_le_bytes w32 (number_at bytes k) ++ take n (drop (k + 4) bytes)
number_kept bytes k n are h is =
    let third = eqb-true (byte_at bytes (k + 2)) 0 ((and_parts (byte_at bytes (k + 2) == 0) (byte_at bytes (k + 3) == 0) is).0) in
    let fourth = eqb-true (byte_at bytes (k + 3)) 0 ((and_parts (byte_at bytes (k + 2) == 0) (byte_at bytes (k + 3) == 0) is).1) in
    four_first bytes k n h
    ∙ ap (λ front. front ++ take n (drop (k + 4) bytes))
    (sym (four_written (byte_at bytes k) (byte_at bytes (k + 1)) (byte_at bytes (k + 2)) (byte_at bytes (k + 3)) (small bytes k are (omega arith)) (small bytes (k + 1) are (omega arith)) third fourth))

pair_kept : (bytes : List ℕ) (i : ℕ) → AreBytes bytes → 12 * i + 12 ≤ length bytes → is_pair_at bytes i ≡ true → pair_bytes (pair_at bytes i) ≡ take 12 (drop (12 * i) bytes)
pair_kept bytes i are h is =
    let first-two = (and_parts (is_number_at bytes (12 * i) && is_number_at bytes (12 * i + 4)) (is_number_at bytes (12 * i + 8)) is).0 in
    let first = (and_parts (is_number_at bytes (12 * i)) (is_number_at bytes (12 * i + 4)) first-two).0 in
    let second = (and_parts (is_number_at bytes (12 * i)) (is_number_at bytes (12 * i + 4)) first-two).1 in
    let third = (and_parts (is_number_at bytes (12 * i) && is_number_at bytes (12 * i + 4)) (is_number_at bytes (12 * i + 8)) is).1 in
    let a = to_le_bytes w32 (number_at bytes (12 * i)) in
    let b = to_le_bytes w32 (number_at bytes (12 * i + 4)) in
    sym (number_kept bytes (12 * i) 8 are (omega arith) first
    ∙ ap (λ rest. a ++ rest)
    (number_kept bytes (12 * i + 4) 4 are (omega arith) second
    ∙ ap (λ rest. b ++ rest)
    (ap (λ k. take 4 (drop k bytes)) (let e : 12 * i + 4 + 4 ≡ 12 * i + 8 = omega arith in e)
    ∙ number_kept bytes (12 * i + 8) 0 are (omega arith) third)))

pub pairs_kept : PairsAreKept
pairs_kept bytes pairs are read =
    let n = length bytes / 12 in
    let w = cond_some (are_pairs bytes) (map (pair_at bytes) (range_with_len 0 n)) pairs read in
    let front = nat_le (length bytes) 3072 && length bytes % 12 == 0 in
    let fits : length bytes % 12 ≡ 0 = eqb-true (length bytes % 12) 0 ((and_parts (nat_le (length bytes) 3072) (length bytes % 12 == 0) ((and_parts front (list_all (is_pair_at bytes) (range_with_len 0 n)) w.0).0)).1) in
    let each = each_holds (is_pair_at bytes) n 0 ((and_parts front (list_all (is_pair_at bytes) (range_with_len 0 n)) w.0).1) in
    let long : length bytes ≡ 12 * (0 + n) = omega (arith, fits) in
    ap pairs_text (sym w.1)
    ∙ pieces_kept pair_bytes (pair_at bytes) 12 bytes n 0 long
    (λ i h. pair_kept bytes i are (omega (arith, long, h)) (ap (is_pair_at bytes) (let e : i ≡ 0 + i = omega arith in e) ∙ each i (omega (arith, h))))
