-- A text that starts at another place.
use Rattle.std.proofs.Common.{◌≡◌, ℕ, zero, suc, ◌+◌, ◌==◌, ◌&&◌, ◌||◌, ◌≤◌, Bool, true, false, cond, Option, Some, None, List, [], ◌∷◌, length, take, drop, refl, sym, ap, ◌∙◌, arith}
use Rattle.std.proofs.lemmas.Bool.{false≢true}
use Rattle.std.specs.List.{prefix_len}
use Rattle.key_text.proofs.for_laws.HasWords.{head_same, tail_same}
use Rattle.key_text.proofs.for_laws.LikeReading.{deeper, rows_read, tolds, words_said}
use Rattle.key_text.proofs.for_laws.SameBytes.{bares}
use Rattle.key_text.proofs.for_laws.Shorter.{shorter}
use Rattle.key_text.proofs.for_laws.WordBytes.{bytes-drop, bytes-take, word_len-bare}
use Rattle.key_text.specs.Parted.{PlacesTell}
use Rattle.key_text.specs.Reading.{most_deep, read_rows, within}
use Rattle.key_text.specs.Rows.{Row, after, backslash, begins_end, begins_lf, place_after, carriage_return, join_continuations, line_feed, next_line, place_of, with_places, put_at, row_of, rows, rows_of, with_item}
use Rattle.key_text.specs.SameWords.{SameBytes, SameRows, SameWords, done, ended, row, word}
use Rattle.key_text.specs.Words.{bytes, is_blank, word_at, word_in, word_len}
use Rattle.key_text.specs.declared.placed.Place.{Place}
use Rattle.key_text.specs.declared.placed.Placed.{Placed}

-- the bytes are the same
with_places_same : (at there : Place) (bs : List ℕ) → bytes (with_places at bs) ≡ bytes (with_places there bs)
with_places_same at there [] = refl
with_places_same at there (b ∷ bs) = ap (λ xs. b ∷ xs) (with_places_same (place_after at b) (place_after there b) bs)

first_byte : (p q : Placed) (ps qs : List Placed) → bytes (p ∷ ps) ≡ bytes (q ∷ qs) → p.byte ≡ q.byte
first_byte p q ps qs e = head_same p.byte q.byte (bytes ps) (bytes qs) e

rest_bytes : (p q : Placed) (ps qs : List Placed) → bytes (p ∷ ps) ≡ bytes (q ∷ qs) → bytes ps ≡ bytes qs
rest_bytes p q ps qs e = tail_same p.byte q.byte (bytes ps) (bytes qs) e

some_bytes : (p : Placed) (ps : List Placed) → bytes [] ≡ bytes (p ∷ ps) → ⊥
some_bytes p ps e = let h : [] ≡ p.byte ∷ bytes ps = e in cc

lf_same : (ps qs : List Placed) → bytes ps ≡ bytes qs → begins_lf ps ≡ begins_lf qs
lf_same [] [] e = refl
lf_same [] (q ∷ qs) e = absurd (some_bytes q qs e)
lf_same (p ∷ ps) [] e = absurd (some_bytes p ps (sym e))
lf_same (p ∷ ps) (q ∷ qs) e = ap (λ b. b == line_feed) (first_byte p q ps qs e)

end_same : (ps qs : List Placed) → bytes ps ≡ bytes qs → begins_end ps ≡ begins_end qs
end_same [] [] e = refl
end_same [] (q ∷ qs) e = absurd (some_bytes q qs e)
end_same (p ∷ ps) [] e = absurd (some_bytes p ps (sym e))
end_same (p ∷ ps) (q ∷ qs) e =
    ap (λ b. b == line_feed || (b == carriage_return && begins_lf ps)) (first_byte p q ps qs e)
    ∙ ap (λ t. q.byte == line_feed || (q.byte == carriage_return && t)) (lf_same ps qs (rest_bytes p q ps qs e))

choose : (b c : Bool) (x y z w : List Placed) → b ≡ c → bytes x ≡ bytes z → bytes y ≡ bytes w → bytes (cond b x y) ≡ bytes (cond c z w)
choose true true x y z w e h k = h
choose true false x y z w e h k = absurd (false≢true (sym e))
choose false true x y z w e h k = absurd (false≢true e)
choose false false x y z w e h k = k

without_first : (xs ys : List Placed) → bytes xs ≡ bytes ys → bytes (drop 1 xs) ≡ bytes (drop 1 ys)
without_first xs ys e = bytes-drop 1 xs ∙ ap (drop 1) e ∙ sym (bytes-drop 1 ys)

join_continuations_same : (ps qs : List Placed) → bytes ps ≡ bytes qs → bytes (join_continuations ps) ≡ bytes (join_continuations qs)
join_continuations_same [] [] e = refl
join_continuations_same [] (q ∷ qs) e = absurd (some_bytes q qs e)
join_continuations_same (p ∷ ps) [] e = absurd (some_bytes p ps (sym e))
join_continuations_same (p ∷ ps) (q ∷ qs) e =
    let b = first_byte p q ps qs e in
    let t = rest_bytes p q ps qs e in
    let rest = join_continuations_same ps qs t in
    let gone = without_first (join_continuations ps) (join_continuations qs) rest in
    choose (p.byte == backslash && begins_end ps) (q.byte == backslash && begins_end qs)
    (drop 1 (join_continuations ps)) (cond (p.byte == carriage_return && begins_lf ps) (put_at (place_of p) line_feed ∷ drop 1 (join_continuations ps)) (p ∷ join_continuations ps))
    (drop 1 (join_continuations qs)) (cond (q.byte == carriage_return && begins_lf qs) (put_at (place_of q) line_feed ∷ drop 1 (join_continuations qs)) (q ∷ join_continuations qs))
    (ap (λ x. x == backslash && begins_end ps) b ∙ ap (λ x. q.byte == backslash && x) (end_same ps qs t)) gone
    (choose (p.byte == carriage_return && begins_lf ps) (q.byte == carriage_return && begins_lf qs)
    (put_at (place_of p) line_feed ∷ drop 1 (join_continuations ps)) (p ∷ join_continuations ps) (put_at (place_of q) line_feed ∷ drop 1 (join_continuations qs)) (q ∷ join_continuations qs)
    (ap (λ x. x == carriage_return && begins_lf ps) b ∙ ap (λ x. q.byte == carriage_return && x) (lf_same ps qs t))
    (ap (λ xs. line_feed ∷ xs) gone)
    ((λ i. b i ∷ rest i)))

-- rows of the same bytes, one by one
abbrev Match : List Row → List Row → Type 0
Match [] [] = Unit {0}
Match [] (s ∷ ss) = ⊥
Match (r ∷ rs) [] = ⊥
Match (r ∷ rs) (s ∷ ss) = (bytes r.items ≡ bytes s.items) × Match rs ss

item_match : (p q : Placed) (rs ss : List Row) → p.byte ≡ q.byte → Match rs ss → Match (with_item p rs) (with_item q ss)
item_match p q [] [] e m = tt
item_match p q [] (s ∷ ss) e m = absurd m
item_match p q (r ∷ rs) [] e m = absurd m
item_match p q (r ∷ rs) (s ∷ ss) e m = ((λ i. e i ∷ m.0 i), m.1)

either_match : (b c : Bool) (rs ss ts us : List Row) → b ≡ c → Match rs ts → Match ss us → Match (cond b rs ss) (cond c ts us)
either_match true true rs ss ts us e h k = h
either_match true false rs ss ts us e h k = absurd (false≢true (sym e))
either_match false true rs ss ts us e h k = absurd (false≢true e)
either_match false false rs ss ts us e h k = k

rows_match : (ps qs : List Placed) → bytes ps ≡ bytes qs → (at there : Place) → Match (rows at ps) (rows there qs)
rows_match [] [] e at there = (refl, tt)
rows_match [] (q ∷ qs) e at there = absurd (some_bytes q qs e)
rows_match (p ∷ ps) [] e at there = absurd (some_bytes p ps (sym e))
rows_match (p ∷ ps) (q ∷ qs) e at there =
    let b = first_byte p q ps qs e in
    let t = rest_bytes p q ps qs e in
    either_match (p.byte == line_feed) (q.byte == line_feed)
    (row_of [] (place_of p) ∷ rows (next_line (place_of p)) ps) (with_item p (rows (after (place_of p)) ps))
    (row_of [] (place_of q) ∷ rows (next_line (place_of q)) qs) (with_item q (rows (after (place_of q)) qs))
    (ap (λ x. x == line_feed) b)
    (refl, rows_match ps qs t (next_line (place_of p)) (next_line (place_of q)))
    (item_match p q (rows (after (place_of p)) ps) (rows (after (place_of q)) qs) b (rows_match ps qs t (after (place_of p)) (after (place_of q))))

-- rows of the same bytes have the same words
abbrev Twice : Option (List Placed × List Placed) → Option (List Placed × List Placed) → Type 0
Twice None None = Unit {0}
Twice None (Some w) = ⊥
Twice (Some v) None = ⊥
Twice (Some v) (Some w) = (bytes v.0 ≡ bytes w.0) × (bytes v.1 ≡ bytes w.1)

blanks : (i : List Placed) → prefix_len (λ p. is_blank p.byte) i ≡ prefix_len is_blank (bytes i)
blanks [] = refl
blanks (p ∷ ps) = ap (λ n. cond (is_blank p.byte) (1 + n) 0) (blanks ps)

cut_twice : (b c : Bool) (n m : ℕ) (x y : List Placed) → b ≡ c → n ≡ m → bytes x ≡ bytes y → Twice (cond b None (Some (take n x, drop n x))) (cond c None (Some (take m y, drop m y)))
cut_twice true true n m x y e f h = tt
cut_twice true false n m x y e f h = absurd (false≢true (sym e))
cut_twice false true n m x y e f h = absurd (false≢true e)
cut_twice false false n m x y e f h = (
  bytes-take n x ∙ ap (take n) h ∙ ap (λ k. take k (bytes y)) f ∙ sym (bytes-take m y),
  bytes-drop n x ∙ ap (drop n) h ∙ ap (λ k. drop k (bytes y)) f ∙ sym (bytes-drop m y),
)

in_twice : (x y : List Placed) → bytes x ≡ bytes y → Twice (word_in x) (word_in y)
in_twice x y e =
    let len : word_len x ≡ word_len y = word_len-bare x ∙ ap (λ bs. word_len (bares bs)) e ∙ sym (word_len-bare y) in
    cut_twice (word_len x == 0) (word_len y == 0) (word_len x) (word_len y) x y (ap (λ n. n == 0) len) len e

twice : (i j : List Placed) → bytes i ≡ bytes j → Twice (word_at i) (word_at j)
unfolding word_at
twice i j e =
    let k = prefix_len (λ p. is_blank p.byte) i in
    let m = prefix_len (λ p. is_blank p.byte) j in
    let same : k ≡ m = blanks i ∙ ap (prefix_len is_blank) e ∙ sym (blanks j) in
    in_twice (drop k i) (drop m j) (bytes-drop k i ∙ ap (drop k) e ∙ ap (λ n. drop n (bytes j)) same ∙ sym (bytes-drop m j))

bytes_words : (n : ℕ) (i j : List Placed) → length i ≤ n → bytes i ≡ bytes j → SameWords SameBytes i j
bytes_words zero i j h e = at (word_at i) (word_at j) refl refl (twice i j e)
  where
    at : (x y : Option (List Placed × List Placed)) → word_at i ≡ x → word_at j ≡ y → Twice x y → SameWords SameBytes i j
    at None None f g t = ended i j f g
    at None (Some w) f g t = absurd t
    at (Some v) y f g t = absurd (let s = shorter i v f in omega (arith, s, h))
bytes_words (suc n) i j h e = at (λ x y l k. bytes_words n x y l k) (word_at i) (word_at j) refl refl (twice i j e)
  where
    at : ((x y : List Placed) → length x ≤ n → bytes x ≡ bytes y → SameWords SameBytes x y) → (x y : Option (List Placed × List Placed)) → word_at i ≡ x → word_at j ≡ y → Twice x y → SameWords SameBytes i j
    at rest None None f g t = ended i j f g
    at rest None (Some w) f g t = absurd t
    at rest (Some v) None f g t = absurd t
    at rest (Some v) (Some w) f g t = word i j v w f g t.0 (rest v.1 w.1 (let s = shorter i v f in omega (arith, s, h)) t.1)

match_rows : (rs ss : List Row) → Match rs ss → SameRows (SameWords SameBytes) rs ss
match_rows [] [] m = done
match_rows [] (s ∷ ss) m = absurd m
match_rows (r ∷ rs) [] m = absurd m
match_rows (r ∷ rs) (s ∷ ss) m = row r s rs ss (bytes_words (length r.items) r.items s.items (omega arith) m.0) (match_rows rs ss m.1)

same_elsewhere : (at there : Place) (text : List ℕ) → SameRows (SameWords SameBytes) (rows_of at text) (rows_of there text)
unfolding rows_of
same_elsewhere at there text =
    match_rows (rows at (join_continuations (with_places at text))) (rows there (join_continuations (with_places there text)))
    (rows_match (join_continuations (with_places at text)) (join_continuations (with_places there text)) (join_continuations_same (with_places at text) (with_places there text) (with_places_same at there text)) at there)

pub places_tell : PlacesTell
places_tell texts at there n text =
    let d = within most_deep texts in
    tolds (read_rows d texts None n (rows_of at text)) (read_rows d texts None n (rows_of there text))
    (rows_read (SameWords SameBytes) words_said d d texts None None (deeper most_deep texts) (rows_of at text) (rows_of there text) (same_elsewhere at there text) n)
