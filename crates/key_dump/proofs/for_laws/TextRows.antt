-- A text of rows is read row by row.
use Rattle.std.proofs.Common.{◌≡◌, ℕ, ◌≤◌, Bool, true, false, ◌==◌, ◌&&◌, not, leb, cond, Some, None, Result, Ok, List, [], ◌∷◌, ◌++◌, append_assoc, codes, map, refl, ap, ◌∙◌, arith, rules}
use Rattle.std.proofs.lemmas.Bool.{and_from, and_left, and_parts, and_right, leb-true, ne_eqb, not-true, or_from}
use Rattle.std.specs.List.{flat_map, join_with_byte}
use Rattle.key_text.specs.Fault.{◌>>=◌}
use Rattle.key_text.specs.Lines.{means, statement_from}
use Rattle.key_text.specs.Reading.{Deeper, Got, make_got, lines_of, most_deep, read_row, read_rows, start, within}
use Rattle.key_text.specs.Rows.{Row, after, backslash, begins_end, begins_lf, carriage_return, join_continuations, line_feed, next_line, place_of, with_places, put_at, row_of, rows, rows_of, with_item}
use Rattle.key_text.specs.KeymapLine.{LineMeaning, KeymapLine}
use Rattle.key_text.specs.Tally.{none_included}
use Rattle.key_text.specs.View.{keymap_line}
use Rattle.key_text.specs.Words.{bytes, place_of_word, word_at}
use Rattle.key_text.specs.declared.fault.KeyFault.{KeyFault}
use Rattle.key_text.specs.declared.placed.Place.{Place}
use Rattle.key_text.specs.declared.placed.Placed.{Placed}
use Rattle.key_dump.specs.Dump.{row_text}
use Rattle.key_dump.proofs.for_laws.NextWord.{is_seen}

-- a byte isn't a backslash at the end
abbrev pub goes_on : ℕ → List ℕ → Bool
goes_on b [] = not (b == 0x5C)
goes_on b (c ∷ cs) = true

-- bytes that are seen and end without a backslash
abbrev pub is_row : List ℕ → Bool
is_row [] = true
is_row (b ∷ bs) = is_seen b && (goes_on b bs && is_row bs)

abbrev pub spread : Place → List ℕ → List Placed
spread at [] = []
spread at (b ∷ bs) = put_at at b ∷ spread (after at) bs

abbrev pub past : Place → List ℕ → Place
past at [] = at
past at (b ∷ bs) = past (after at) bs

bytes-spread : (at : Place) (row : List ℕ) → bytes (spread at row) ≡ row
bytes-spread at [] = refl
bytes-spread at (b ∷ bs) = ap (λ rest. b ∷ rest) (bytes-spread (after at) bs)

seen_low : (b : ℕ) → is_seen b ≡ true → 0x20 ≤ b
seen_low b e = leb-true 0x20 b (and_parts (leb 0x20 b) (leb b 0x7E) e).0

seen_no_lf : (b : ℕ) → is_seen b ≡ true → (b == line_feed) ≡ false
seen_no_lf b e = let low = seen_low b e in ne_eqb b line_feed (λ (same : b ≡ line_feed). omega arith)

seen_no_cr : (b : ℕ) → is_seen b ≡ true → (b == carriage_return) ≡ false
seen_no_cr b e = let low = seen_low b e in ne_eqb b carriage_return (λ (same : b ≡ carriage_return). omega arith)

join_continuations_plain : (p : Placed) (ps : List Placed) → (p.byte == backslash && begins_end ps) ≡ false → (p.byte == carriage_return && begins_lf ps) ≡ false → join_continuations (p ∷ ps) ≡ p ∷ join_continuations ps
join_continuations_plain p ps no_join no_end = rw (no_join, no_end) refl

stays : (at : Place) (b : ℕ) (bs rest : List ℕ) → goes_on b bs ≡ true → is_row bs ≡ true → (b == backslash && begins_end (with_places at (bs ++ 0x0A ∷ rest))) ≡ false
stays at b [] rest on row = and_left (b == backslash) (begins_end (with_places at (0x0A ∷ rest))) (not-true (b == backslash) on)
stays at b (c ∷ cs) rest on row =
    search (rules, and_parts, is_seen, and_right, or_from, seen_no_lf, and_left, seen_no_cr)

-- the first row of a text, and the rows of what follows it
row_first : (at : Place) (row rest : List ℕ) → is_row row ≡ true → rows at (join_continuations (with_places at (row ++ 0x0A ∷ rest))) ≡ row_of (spread at row) (past at row) ∷ rows (next_line (past at row)) (join_continuations (with_places (next_line (past at row)) rest))
row_first at [] rest e = refl
row_first at (b ∷ bs) rest e =
    let parts = and_parts (is_seen b) (goes_on b bs && is_row bs) e in
    let more = and_parts (goes_on b bs) (is_row bs) parts.1 in
    let lf = seen_no_lf b parts.0 in
    let p = put_at at b in
    let ps = with_places (after at) (bs ++ 0x0A ∷ rest) in
    ap (λ place. rows at (join_continuations (p ∷ with_places place (bs ++ 0x0A ∷ rest)))) (ap (λ t. cond t (next_line at) (after at)) lf)
    ∙ ap (rows at) (join_continuations_plain p ps (stays (after at) b bs rest more.0 more.1) (and_left (b == carriage_return) (begins_lf ps) (seen_no_cr b parts.0)))
    ∙ ap (λ t. cond t (row_of [] (place_of p) ∷ rows (next_line (place_of p)) (join_continuations ps)) (with_item p (rows (after (place_of p)) (join_continuations ps)))) lf
    ∙ ap (with_item p) (row_first (after at) bs rest more.1)

-- these items of a row are read as this line
pub record SaysAt (end : Place) (items : List Placed) (meaning : LineMeaning) : Type 0 where
  pub word : List Placed
  pub left : List Placed
  pub found : word_at items ≡ Some (word, left)
  pub said : statement_from end (word, left) ≡ Ok (means meaning)

-- a row is read as this line, wherever it stands
pub record Says (row : List ℕ) (meaning : LineMeaning) : Type 0 where
  pub plain : is_row row ≡ true
  pub says : (end : Place) (items : List Placed) → bytes items ≡ row → SaysAt end items meaning

-- rows of words are read as these lines
abbrev pub AllSay : List (List (List ℕ)) → List LineMeaning → Type 0
AllSay [] [] = Unit {0}
AllSay [] (meaning ∷ meanings) = ⊥
AllSay (row ∷ rs) [] = ⊥
AllSay (row ∷ rs) (meaning ∷ meanings) = Says (join_with_byte 0x20 row) meaning × AllSay rs meanings

pub all_say_append : (xs ys : List (List (List ℕ))) (us vs : List LineMeaning) → AllSay xs us → AllSay ys vs → AllSay (xs ++ ys) (us ++ vs)
all_say_append [] ys [] vs p q = q
all_say_append [] ys (u ∷ us) vs p q = absurd p
all_say_append (x ∷ xs) ys [] vs p q = absurd p
all_say_append (x ∷ xs) ys (u ∷ us) vs p q = (p.0, all_say_append xs ys us vs p.1 q)

-- lines that were read tell this
pub record LinesTell (read : Result Got KeyFault) (meanings : List LineMeaning) : Type 0 where
  pub lines : List KeymapLine
  pub is : read ≡ Ok (make_got lines (none_included None))
  pub tell : map (λ l. l.meaning) lines ≡ meanings

read_row_says : (deeper : Deeper) (end : Place) (items : List Placed) (meaning : LineMeaning) (says : SaysAt end items meaning) → read_row deeper [] None (none_included None) end items ≡ Ok (make_got (keymap_line meaning (place_of_word says.word).line (place_of_word says.word).column ∷ []) (none_included None))
unfolding read_row
read_row_says deeper end items meaning says =
    cc (says.found, says.said)

no_row : (deeper : Deeper) (at : Place) → read_rows deeper [] None (none_included None) (rows at (join_continuations (with_places at []))) ≡ Ok (make_got [] (none_included None))
unfolding read_row word_at
no_row deeper at = refl

one_row : (deeper : Deeper) (end : Place) (items : List Placed) (left : List Row) (meaning : KeymapLine) (lines : List KeymapLine) → read_row deeper [] None (none_included None) end items ≡ Ok (make_got (meaning ∷ []) (none_included None)) → read_rows deeper [] None (none_included None) left ≡ Ok (make_got lines (none_included None)) → read_rows deeper [] None (none_included None) (row_of items end ∷ left) ≡ Ok (make_got (meaning ∷ lines) (none_included None))
one_row deeper end items left meaning lines first more =
    search rules

rows_read : (deeper : Deeper) (at : Place) (rs : List (List (List ℕ))) (meanings : List LineMeaning) → AllSay rs meanings → LinesTell (read_rows deeper [] None (none_included None) (rows at (join_continuations (with_places at (flat_map row_text rs))))) meanings
rows_read deeper at [] [] said = record { lines = []; is = no_row deeper at; tell = refl }
rows_read deeper at [] (meaning ∷ meanings) said = absurd said
rows_read deeper at (ws ∷ rs) [] said = absurd said
rows_read deeper at (ws ∷ rs) (meaning ∷ meanings) said =
    let row = join_with_byte 0x20 ws in
    let rest = flat_map row_text rs in
    let next = next_line (past at row) in
    let says = said.0.says (past at row) (spread at row) (bytes-spread at row) in
    let more = rows_read deeper next rs meanings said.1 in
    let line = keymap_line meaning (place_of_word says.word).line (place_of_word says.word).column in
    record {
      lines = line ∷ more.lines;
      is =
          ap (λ text. read_rows deeper [] None (none_included None) (rows at (join_continuations (with_places at text)))) (append_assoc row (codes "\n") rest)
          ∙ ap (read_rows deeper [] None (none_included None)) (row_first at row rest said.0.plain)
          ∙ one_row deeper (past at row) (spread at row) (rows next (join_continuations (with_places next rest))) line more.lines
          (read_row_says deeper (past at row) (spread at row) meaning says) more.is;
      tell = ap (λ ts. meaning ∷ ts) more.tell;
    }

-- a text is read as lines that tell this
pub record TextTells (text : List ℕ) (meanings : List LineMeaning) : Type 0 where
  pub lines : List KeymapLine
  pub is : lines_of [] text ≡ Ok lines
  pub tell : map (λ l. l.meaning) lines ≡ meanings

pub text_read : (rs : List (List (List ℕ))) (meanings : List LineMeaning) → AllSay rs meanings → TextTells (flat_map row_text rs) meanings
unfolding lines_of rows_of
text_read rs meanings said =
    let read = rows_read (within most_deep []) start rs meanings said in
    search rules

-- a row of two parts
pub row_append : (a b : List ℕ) → is_row a ≡ true → is_row b ≡ true → is_row (a ++ b) ≡ true
row_append [] b p q = q
row_append (x ∷ xs) b p q =
    let parts = and_parts (is_seen x) (goes_on x xs && is_row xs) p in
    let more = and_parts (goes_on x xs) (is_row xs) parts.1 in
    and_from (is_seen x) (goes_on x (xs ++ b) && is_row (xs ++ b)) parts.0
    (and_from (goes_on x (xs ++ b)) (is_row (xs ++ b)) (on x xs b more.0) (row_append xs b more.1 q))
  where
    on : (x : ℕ) (xs b : List ℕ) → goes_on x xs ≡ true → goes_on x (xs ++ b) ≡ true
    on x [] [] e = e
    on x [] (c ∷ cs) e = refl
    on x (c ∷ cs) b e = refl
