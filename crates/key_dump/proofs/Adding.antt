-- Texts that grow by rows, one after another.
use Rattle.std.proofs.Common.{◌≡◌, ℕ, zero, suc, ◌+◌, ◌<◌, ◌≤◌, Bool, true, false, cond, Option, Some, None, is_some, unwrap_or, IfSome, List, [], ◌∷◌, ◌++◌, codes, decimal, filter, map, length, get_or, take, append_assoc, append-nil, refl, sym, ap, ◌∙◌, arith}
use Rattle.std.proofs.lemmas.Bool.{false≢true}
use Rattle.std.proofs.Math.Seq.{take-suc}
use Rattle.std.proofs.lemmas.Grind.{flat_map-append}
use Rattle.std.proofs.lemmas.List.{map-append, take_all}
use Rattle.std.proofs.lemmas.List.Elements.{filter-append}
use Rattle.std.specs.List.{flat_map, join_with_byte, range_with_len, slice_index_or}
use Rattle.std.specs.Option.{option_map, option_map_or}
use Rattle.key_syms.specs.Act.{Act}
use Rattle.key_tables.specs.Tables.{IsMap, IsWhole, Tables, entry_of, exists_in, hole, map_of}
use Rattle.key_dump.specs.Dump.{Modifier, entry_rows, row_text, rows_from, table_numbers, table_rows}
use Rattle.key_dump.specs.Spaced.{blank_after_each}

rows_from_more : {X Row : Type 0} (rows : ℕ → X → List Row) (from : ℕ) (xs : List X) (i n : ℕ) (d : X) → n ≡ from + i → i < length xs → rows_from rows from (take (suc i) xs) ≡ rows_from rows from (take i xs) ++ rows n (get_or xs i d)
rows_from_more rows from [] i n d e h = absurd (omega arith)
rows_from_more rows from (x ∷ xs) zero n d e h =
    append-nil (rows from x) ∙ ap (λ m. rows m x) (let same : from ≡ n = omega arith in same)
rows_from_more rows from (x ∷ xs) (suc i) n d e h =
    ap (λ rest. rows from x ++ rest) (rows_from_more rows (suc from) xs i n d (omega arith) (omega arith))
    ∙ sym (append_assoc (rows from x) (rows_from rows (suc from) (take i xs)) (rows n (get_or xs i d)))

-- the rows of one item more
pub rows_more : {X Row : Type 0} (text : Row → List ℕ) (rows : ℕ → X → List Row) (xs : List X) (i : ℕ) (d : X) (start before after : List ℕ) → i < length xs → after ≡ before ++ flat_map text (rows i (get_or xs i d)) → before ≡ start ++ flat_map text (rows_from rows 0 (take i xs)) → after ≡ start ++ flat_map text (rows_from rows 0 (take (i + 1) xs))
rows_more text rows xs i d start before after h added so_far =
    added ∙ ap (λ b. b ++ flat_map text (rows i (get_or xs i d))) so_far
    ∙ append_assoc start (flat_map text (rows_from rows 0 (take i xs))) (flat_map text (rows i (get_or xs i d)))
    ∙ ap (λ rest. start ++ rest)
    (sym (flat_map-append text (rows_from rows 0 (take i xs)) (rows i (get_or xs i d)))
    ∙ ap (flat_map text) (sym (rows_from_more rows 0 xs i i d (omega arith) h))
    ∙ ap (λ n. flat_map text (rows_from rows 0 (take n xs))) (let k : suc i ≡ i + 1 = omega arith in k))

-- the rows of all items
pub rows_all : {X Row : Type 0} (text : Row → List ℕ) (rows : ℕ → X → List Row) (xs : List X) (i : ℕ) (start after : List ℕ) → length xs ≤ i → after ≡ start ++ flat_map text (rows_from rows 0 (take i xs)) → after ≡ start ++ flat_map text (rows_from rows 0 xs)
rows_all text rows xs i start after h e = e ∙ ap (λ ys. start ++ flat_map text (rows_from rows 0 ys)) (take_all i xs h)

-- one item more, of items that are mapped
pub mapped_more : {X Row : Type 0} (text : Row → List ℕ) (row : X → Row) (xs : List X) (i : ℕ) (d : X) (start before after : List ℕ) → i < length xs → after ≡ before ++ text (row (get_or xs i d)) → before ≡ start ++ flat_map text (map row (take i xs)) → after ≡ start ++ flat_map text (map row (take (i + 1) xs))
mapped_more text row xs i d start before after h added so_far =
    added ∙ ap (λ b. b ++ text (row (get_or xs i d))) so_far
    ∙ append_assoc start (flat_map text (map row (take i xs))) (text (row (get_or xs i d)))
    ∙ ap (λ rest. start ++ (flat_map text (map row (take i xs)) ++ rest)) (sym (append-nil (text (row (get_or xs i d)))))
    ∙ ap (λ rest. start ++ rest) (sym (flat_map-append text (map row (take i xs)) (row (get_or xs i d) ∷ [])))
    ∙ ap (λ rows. start ++ flat_map text rows) (sym (map-append row (take i xs) (get_or xs i d ∷ [])))
    ∙ ap (λ ys. start ++ flat_map text (map row ys)) (sym (take-suc xs i d h) ∙ ap (λ n. take n xs) (let k : suc i ≡ i + 1 = omega arith in k))

-- a text after two more
pub two_more : (start a b u v : List ℕ) → a ≡ start ++ u → b ≡ a ++ v → b ≡ start ++ (u ++ v)
two_more start a b u v p q = q ∙ ap (λ t. t ++ v) p ∙ append_assoc start u v

-- words with blanks between, of which the first ones have one after each
pub join_blank_after_each : (ws : List (List ℕ)) (w : List ℕ) (vs : List (List ℕ)) → join_with_byte 0x20 (ws ++ w ∷ vs) ≡ blank_after_each ws ++ join_with_byte 0x20 (w ∷ vs)
join_blank_after_each [] w vs = refl
join_blank_after_each (x ∷ []) w vs =
    sym (ap (λ t. t ++ join_with_byte 0x20 (w ∷ vs)) (append-nil (x ++ 0x20 ∷ [])) ∙ append_assoc x (0x20 ∷ []) (join_with_byte 0x20 (w ∷ vs)))
join_blank_after_each (x ∷ y ∷ ys) w vs =
    ap (λ rest. x ++ (0x20 ∷ rest)) (join_blank_after_each (y ∷ ys) w vs)
    ∙ sym (append_assoc (x ++ 0x20 ∷ []) (blank_after_each (y ∷ ys)) (join_with_byte 0x20 (w ∷ vs))
    ∙ append_assoc x (0x20 ∷ []) (blank_after_each (y ∷ ys) ++ join_with_byte 0x20 (w ∷ vs)))

-- the words of the modifiers that pass, one after another
abbrev pub spaced_each : (Modifier → Bool) → List Modifier → List ℕ
spaced_each test [] = []
spaced_each test (m ∷ ms) = cond (test m) (m.word ++ codes " ") [] ++ spaced_each test ms

pub blank_after_each_each : (test : Modifier → Bool) (ms : List Modifier) → blank_after_each (map (λ m. m.word) (filter test ms)) ≡ spaced_each test ms
blank_after_each_each test [] = refl
blank_after_each_each test (m ∷ ms) = by_test (blank_after_each_each test ms) (test m)
  where
    by_test : blank_after_each (map (λ m. m.word) (filter test ms)) ≡ spaced_each test ms → (b : Bool) → blank_after_each (map (λ m. m.word) (cond b (m ∷ filter test ms) (filter test ms))) ≡ cond b (m.word ++ codes " ") [] ++ spaced_each test ms
    by_test rest true = ap (λ t. (m.word ++ codes " ") ++ t) rest
    by_test rest false = rest

-- the numbers below n that pass
unfoldable pub numbers_below : (ℕ → Bool) → ℕ → List ℕ
numbers_below test n = filter test (range_with_len 0 n)

abbrev pub some_items : {X : Type 0} → List X → Bool
some_items [] = false
some_items (x ∷ xs) = true

-- the numbers so far were added
pub record AreNumbered (test : ℕ → Bool) (start bytes : List ℕ) (some : Bool) (n : ℕ) : Type 0 where
  pub text : bytes ≡ start ++ join_with_byte 0x2C (map decimal (numbers_below test n))
  pub any : some ≡ some_items (numbers_below test n)

pub numbers_below_none : (test : ℕ → Bool) → numbers_below test 0 ≡ []
unfolding numbers_below
numbers_below_none test = refl

pub numbers_below_more : (test : ℕ → Bool) (n : ℕ) → numbers_below test (n + 1) ≡ numbers_below test n ++ cond (test n) (n ∷ []) []
unfolding numbers_below
numbers_below_more test n =
    ap (λ m. filter test (range_with_len 0 m)) (let e : n + 1 ≡ suc n = omega arith in e)
    ∙ ap (filter test) (range_more 0 n n (omega arith))
    ∙ filter-append test (range_with_len 0 n) (n ∷ [])
  where
    range_more : (a n m : ℕ) → m ≡ a + n → range_with_len a (suc n) ≡ range_with_len a n ++ m ∷ []
    range_more a zero m e = ap (λ k. k ∷ []) (let same : a ≡ m = omega arith in same)
    range_more a (suc n) m e = ap (λ rest. a ∷ rest) (range_more (a + 1) n m (omega arith))

pub numbers_all : (k : Tables) (n : ℕ) → n ≡ 256 → numbers_below (exists_in k) n ≡ table_numbers k
unfolding numbers_below table_numbers
numbers_all k n e = ap (λ m. filter (exists_in k) (range_with_len 0 m)) e

join_more : (ws : List (List ℕ)) (w : List ℕ) → join_with_byte 0x2C (ws ++ w ∷ []) ≡ join_with_byte 0x2C ws ++ (cond (some_items ws) (codes ",") [] ++ w)
join_more [] w = refl
join_more (x ∷ []) w = refl
join_more (x ∷ y ∷ ys) w =
    ap (λ rest. x ++ (0x2C ∷ rest)) (join_more (y ∷ ys) w)
    ∙ sym (append_assoc x (0x2C ∷ join_with_byte 0x2C (y ∷ ys)) (codes "," ++ w))

some_items-map : (ns : List ℕ) → some_items (map decimal ns) ≡ some_items ns
some_items-map [] = refl
some_items-map (n ∷ ns) = refl

some_items_more : (ns : List ℕ) (n : ℕ) → some_items (ns ++ n ∷ []) ≡ true
some_items_more [] n = refl
some_items_more (m ∷ ns) n = refl

pub numbered_start : (test : ℕ → Bool) (start : List ℕ) → AreNumbered test start start false 0
numbered_start test start = record {
  text = sym (ap (λ ns. start ++ join_with_byte 0x2C (map decimal ns)) (numbers_below_none test) ∙ append-nil start);
  any = sym (ap some_items (numbers_below_none test));
}

numbered_as : (test : ℕ → Bool) (start bytes : List ℕ) (some : Bool) (n : ℕ) (ns : List ℕ) → numbers_below test n ≡ ns → bytes ≡ start ++ join_with_byte 0x2C (map decimal ns) → some ≡ some_items ns → AreNumbered test start bytes some n
numbered_as test start bytes some n ns e text any = record {
  text = text ∙ ap (λ ms. start ++ join_with_byte 0x2C (map decimal ms)) (sym e);
  any = any ∙ ap some_items (sym e);
}

pub numbered_no : (test : ℕ → Bool) (start bytes : List ℕ) (some : Bool) (n : ℕ) → AreNumbered test start bytes some n → test n ≡ false → AreNumbered test start bytes some (n + 1)
numbered_no test start bytes some n so_far no_table =
    numbered_as test start bytes some (n + 1) (numbers_below test n)
    (numbers_below_more test n ∙ ap (λ b. numbers_below test n ++ cond b (n ∷ []) []) no_table ∙ append-nil (numbers_below test n))
    so_far.text so_far.any

pub numbered_yes : (test : ℕ → Bool) (start bytes comma after : List ℕ) (some : Bool) (n : ℕ) → AreNumbered test start bytes some n → test n ≡ true → comma ≡ bytes ++ cond some (codes ",") [] → after ≡ comma ++ decimal n → AreNumbered test start after true (n + 1)
numbered_yes test start bytes comma after some n so_far table first second =
    let ns = numbers_below test n in
    numbered_as test start after true (n + 1) (ns ++ n ∷ [])
    (numbers_below_more test n ∙ ap (λ b. ns ++ cond b (n ∷ []) []) table)
    (two_more bytes comma after (cond some (codes ",") []) (decimal n) first second
    ∙ ap (λ b. b ++ (cond some (codes ",") [] ++ decimal n)) so_far.text
    ∙ append_assoc start (join_with_byte 0x2C (map decimal ns)) (cond some (codes ",") [] ++ decimal n)
    ∙ ap (λ b. start ++ (join_with_byte 0x2C (map decimal ns) ++ (cond b (codes ",") [] ++ decimal n))) (so_far.any ∙ sym (some_items-map ns))
    ∙ ap (λ t. start ++ t) (sym (join_more (map decimal ns) (decimal n)))
    ∙ ap (λ ws. start ++ join_with_byte 0x2C ws) (sym (map-append decimal ns (n ∷ []))))
    (sym (some_items_more ns n))

-- the entries of a table
pub entry_more : (k : Tables) (t c : ℕ) (start before after : List ℕ) → IsWhole k → t < 256 → exists_in k t ≡ true → c < 256 → after ≡ before ++ option_map_or (λ a. flat_map row_text (entry_rows t c a)) (entry_of k t c) [] → before ≡ start ++ flat_map row_text (rows_from (entry_rows t) 0 (take c (unwrap_or (map_of k t) []))) → after ≡ start ++ flat_map row_text (rows_from (entry_rows t) 0 (take (c + 1) (unwrap_or (map_of k t) [])))
entry_more k t c start before after whole low exists small added so_far =
    by_map (map_of k t) exists (whole.maps t None (let tall = whole.tall in omega (arith, tall, low))) added so_far
  where
    by_map : (m : Option (List Act)) → is_some m ≡ true → IfSome m IsMap → after ≡ before ++ option_map_or (λ a. flat_map row_text (entry_rows t c a)) (option_map (λ map. slice_index_or map c hole) m) [] → before ≡ start ++ flat_map row_text (rows_from (entry_rows t) 0 (take c (unwrap_or m []))) → after ≡ start ++ flat_map row_text (rows_from (entry_rows t) 0 (take (c + 1) (unwrap_or m [])))
    by_map None e is added so_far = absurd (false≢true e)
    by_map (Some map) e is added so_far =
        rows_more row_text (entry_rows t) map c hole start before after (let full = is.full in omega (arith, full, small)) added so_far

pub entries_all : (k : Tables) (t c : ℕ) (start after : List ℕ) → IsWhole k → t < 256 → exists_in k t ≡ true → 256 ≤ c → after ≡ start ++ flat_map row_text (rows_from (entry_rows t) 0 (take c (unwrap_or (map_of k t) []))) → after ≡ start ++ flat_map row_text (table_rows t (map_of k t))
entries_all k t c start after whole low exists all e =
    by_map (map_of k t) exists (whole.maps t None (let tall = whole.tall in omega (arith, tall, low))) e
  where
    by_map : (m : Option (List Act)) → is_some m ≡ true → IfSome m IsMap → after ≡ start ++ flat_map row_text (rows_from (entry_rows t) 0 (take c (unwrap_or m []))) → after ≡ start ++ flat_map row_text (table_rows t m)
    by_map None e is text = absurd (false≢true e)
    by_map (Some map) e is text = rows_all row_text (entry_rows t) map c start after (let full = is.full in omega (arith, full, all)) text
