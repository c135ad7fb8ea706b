-- A row whose text has joins, up to its end.
use Rattle.std.proofs.Common.{Bool, IsTrue, List, [], ap, append-nil, arith, cond, false, not, refl, subst, sym, true, ℕ, ◌++◌, ◌==◌, ◌||◌, ◌∙◌, ◌∷◌, ◌≡◌}
use Rattle.std.proofs.lemmas.Bool.{and_parts, false≢true, not-true}
use Rattle.std.proofs.lemmas.Bool.Decides.{nat_tests}
use Rattle.key_text.proofs.for_laws.HasWords.{HasRows, a_row, an_empty, no_row}
use Rattle.key_text.proofs.Turns.{byte_turn, rows_from, rows_of_from, with_items, with_items_row}
use Rattle.key_text.proofs.for_laws.WordBytes.{spaced_words}
use Rattle.key_text.specs.Cut.{end_len, join_len, lf_len}
use Rattle.key_text.specs.Rows.{Row, after, backslash, carriage_return, line_feed, next_line, put_at, row_of, rows_of, with_item}
use Rattle.key_text.specs.Spelled.{IsEnd, Joined, Spells, byte, ended, crlf, end, is_row, join, join_crlf, last, last_empty, lf, nothing, row, row_empty}
use Rattle.key_text.specs.Words.{bytes}
use Rattle.key_text.specs.declared.placed.Place.{Place}
use Rattle.key_text.specs.declared.placed.Placed.{Placed}

-- the first byte of a row is no line feed
no_feed : (b : ℕ) (bs : List ℕ) → IsTrue (is_row (b ∷ bs)) → (b == line_feed) ≡ false
no_feed b [] h = grind (arith, nat_tests)
no_feed b (c ∷ bs) h = not-true (b == line_feed) ((and_parts (not (b == line_feed)) (is_row (c ∷ bs)) h).0)

-- a row goes on after this byte
abbrev goes_on : List ℕ → Bool
goes_on [] = false
goes_on (b ∷ bs) = true

rest_row : (b : ℕ) (bs : List ℕ) → IsTrue (is_row (b ∷ bs)) → IsTrue (is_row bs)
rest_row b [] h = refl
rest_row b (c ∷ bs) h = (and_parts (not (b == line_feed)) (is_row (c ∷ bs)) h).1

goes-on : (b : ℕ) (bs : List ℕ) → (b == carriage_return || b == backslash) ≡ true → IsTrue (is_row (b ∷ bs)) → IsTrue (goes_on bs)
goes-on b (c ∷ bs) e h = refl
goes-on b [] e h = grind (arith, nat_tests)

no_feed_next : (bs text z : List ℕ) → Joined bs text → IsTrue (is_row bs) → IsTrue (goes_on bs) → lf_len (text ++ z) ≡ 0
no_feed_next bs text z end h g = absurd (false≢true g)
no_feed_next bs text z (byte b cs t j) h g = ap (λ x. cond x 1 0) (no_feed b cs h)
no_feed_next bs text z (join _ t j) h g = refl
no_feed_next bs text z (join_crlf _ t j) h g = refl

no_end_here : (b : ℕ) (bs text z : List ℕ) → Joined bs text → IsTrue (is_row (b ∷ bs)) → end_len (b ∷ text ++ z) ≡ 0
no_end_here b bs text z j h =
    let feed = no_feed b bs h in
    let next : (b == carriage_return || b == backslash) ≡ true → lf_len (text ++ z) ≡ 0 =
    λ e. no_feed_next bs text z j (rest_row b bs h) (goes-on b bs e h) in
    grind (arith, nat_tests)

no_end_next : (bs text z : List ℕ) → Joined bs text → IsTrue (is_row bs) → IsTrue (goes_on bs) → end_len (text ++ z) ≡ 0
no_end_next bs text z end h g = absurd (false≢true g)
no_end_next bs text z (join _ t j) h g = refl
no_end_next bs text z (join_crlf _ t j) h g = refl
no_end_next bs text z (byte b cs t j) h g = no_end_here b cs t z j h

no_join_here : (b : ℕ) (bs text z : List ℕ) → Joined bs text → IsTrue (is_row (b ∷ bs)) → join_len (b ∷ text ++ z) ≡ 0
no_join_here b bs text z j h =
    let next : (b == carriage_return || b == backslash) ≡ true → end_len (text ++ z) ≡ 0 =
    λ e. no_end_next bs text z j (rest_row b bs h) (goes-on b bs e h) in
    grind (arith, nat_tests)

-- the bytes of the row were read, up to what follows it
pub record Reads (from here : Place) (bs text z : List ℕ) : Type 0 where
  pub items : List Placed
  pub to : Place
  pub at : Place
  pub same : rows_from from here (text ++ z) ≡ with_items items (rows_from to at z)
  pub has : bytes items ≡ bs

reads : (bs text z : List ℕ) → Joined bs text → IsTrue (is_row bs) → (from here : Place) → Reads from here bs text z
reads bs text z end h from here = record { items = []; to = from; at = here; same = refl; has = refl }
reads bs text z (byte b cs t j) h from here =
    let r = reads cs t z j (rest_row b cs h) (after here) (after here) in
    record {
      items = put_at here b ∷ r.items;
      to = r.to;
      at = r.at;
      same = byte_turn from here b (t ++ z) (no_end_here b cs t z j h) (no_join_here b cs t z j h) ∙ ap (with_item (put_at here b)) r.same;
      has = ap (λ x. b ∷ x) r.has;
    }
reads bs text z (join _ t j) h from here =
    let r = reads bs t z j h from (next_line here) in
    record { items = r.items; to = r.to; at = r.at; same = r.same; has = r.has }
reads bs text z (join_crlf _ t j) h from here =
    let r = reads bs t z j h from (next_line here) in
    record { items = r.items; to = r.to; at = r.at; same = r.same; has = r.has }

-- the row that was read
pub record Begins (at : Place) (bs text : List ℕ) (left : List ℕ) : Type 0 where
  pub items : List Placed
  pub end_at : Place
  pub next : Place
  pub same : rows_of at text ≡ row_of items end_at ∷ rows_of next left
  pub has : bytes items ≡ bs

row_then : (items : List Placed) (e : Place) (left : List Row) → with_items items (row_of [] e ∷ left) ≡ row_of items e ∷ left
row_then items e left = with_items_row items [] e left ∙ ap (λ ps. row_of ps e ∷ left) (append-nil items)

ended-row : (bs text z rest : List ℕ) → IsEnd z → Joined bs text → IsTrue (is_row bs) → (at : Place) → Begins at bs (text ++ (z ++ rest)) rest
ended-row bs text z rest lf j h at =
    let r = reads bs text (line_feed ∷ rest) j h at at in
    record {
      items = r.items;
      end_at = r.at;
      next = next_line r.at;
      has = r.has;
      same = rows_of_from at (text ++ line_feed ∷ rest) ∙ r.same ∙ row_then r.items r.at (rows_from (next_line r.at) (next_line r.at) rest)
          ∙ ap (λ x. row_of r.items r.at ∷ x) (sym (rows_of_from (next_line r.at) rest));
    }
ended-row bs text z rest crlf j h at =
    let r = reads bs text (carriage_return ∷ line_feed ∷ rest) j h at at in
    record {
      items = r.items;
      end_at = r.at;
      next = next_line r.at;
      has = r.has;
      same = rows_of_from at (text ++ carriage_return ∷ line_feed ∷ rest) ∙ r.same ∙ row_then r.items r.at (rows_from (next_line r.at) (next_line r.at) rest)
          ∙ ap (λ x. row_of r.items r.at ∷ x) (sym (rows_of_from (next_line r.at) rest));
    }

last-row : (bs text : List ℕ) → Joined bs text → IsTrue (is_row bs) → (at : Place) → (items : List Placed) × (e : Place) × (rows_of at text ≡ row_of items e ∷ []) × (bytes items ≡ bs)
last-row bs text j h at =
    let r = reads bs text [] j h at at in
    (r.items, r.to, rows_of_from at text ∙ ap (rows_from at at) (sym (append-nil text)) ∙ r.same ∙ row_then r.items r.to [], r.has)

no_items : (at : Place) → rows_of at [] ≡ row_of [] at ∷ []
unfolding rows_of
no_items at = refl

-- a text has the rows of words that it spells
pub spelled_rows : (rows : List (List (List ℕ))) (text : List ℕ) → Spells rows text → (at : Place) → HasRows rows (rows_of at text)
spelled_rows rows text nothing at =
    subst (λ (x : List Row). HasRows [] x) (sym (no_items at)) (an_empty [] (row_of [] at) [] (spaced_words [] [] ended [] refl) no_row)
spelled_rows rows text (last words _ is) at =
    let r = last-row is.bytes text is.joined is.one_row at in
    subst (λ (x : List Row). HasRows (words ∷ []) x) (sym r.2) (a_row words [] (row_of r.0 r.1) [] (spaced_words words is.bytes is.spaced r.0 r.3) no_row)
spelled_rows rows text (last_empty _ is) at =
    let r = last-row is.bytes text is.joined is.one_row at in
    subst (λ (x : List Row). HasRows [] x) (sym r.2) (an_empty [] (row_of r.0 r.1) [] (spaced_words [] is.bytes is.spaced r.0 r.3) no_row)
spelled_rows rows text (row words more t z rest is e s) at =
    let r = ended-row is.bytes t z rest e is.joined is.one_row at in
    subst (λ (x : List Row). HasRows (words ∷ more) x) (sym r.same) (a_row words more (row_of r.items r.end_at) (rows_of r.next rest) (spaced_words words is.bytes is.spaced r.items r.has) (spelled_rows more rest s r.next))
spelled_rows rows text (row_empty more t z rest is e s) at =
    let r = ended-row is.bytes t z rest e is.joined is.one_row at in
    subst (λ (x : List Row). HasRows more x) (sym r.same) (an_empty more (row_of r.items r.end_at) (rows_of r.next rest) (spaced_words [] is.bytes is.spaced r.items r.has) (spelled_rows more rest s r.next))
