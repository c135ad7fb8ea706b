-- A text that ends a line and the text after it are read one after the other.
use Rattle.std.proofs.Common.{◌≡◌, ℕ, IsTrue, Option, None, Result, Ok, Err, List, [], ◌∷◌, ◌++◌, append-nil, ◌⊎◌, refl, sym, ap, ◌∙◌, inl, inr}
use Rattle.std.proofs.lemmas.List.{append_assoc}
use Rattle.key_text.proofs.for_laws.LikeReading.{rows_empty, with_nothing}
use Rattle.key_text.proofs.for_laws.Parts.{parts}
use Rattle.key_text.proofs.Turns.{rows_of_from}
use Rattle.key_text.proofs.for_laws.WordBytes.{no_word}
use Rattle.key_text.specs.Fault.{◌>>=◌}
use Rattle.key_text.specs.Included.{Named}
use Rattle.key_text.specs.KeymapLine.{KeymapLine}
use Rattle.key_text.specs.Parted.{FaultsAreFirst, FaultsStop, StartsThere, TextsFollow, is_ended, place_after_text, read_from}
use Rattle.key_text.specs.Reading.{Deeper, Got, make_got, lines_of, most_deep, read_row, read_rows, with_lines, within}
use Rattle.key_text.specs.Rows.{Row, row_of, rows_of}
use Rattle.key_text.specs.declared.fault.KeyFault.{KeyFault}
use Rattle.key_text.specs.declared.placed.Place.{Place}
use Rattle.key_text.specs.declared.tally.Tally.{Tally}

lines_twice : (xs ys : List KeymapLine) (r : Result Got KeyFault) → with_lines xs (with_lines ys r) ≡ with_lines (xs ++ ys) r
lines_twice xs ys (Ok g) = ap (λ ls. Ok (make_got ls g.tally)) (sym (append_assoc xs ys g.lines))
lines_twice xs ys (Err f) = refl

lines_then : (xs : List KeymapLine) (r : Result Got KeyFault) (more : Tally → Result Got KeyFault) → with_lines xs (r >>= λ g. with_lines g.lines (more g.tally)) ≡ (with_lines xs r >>= λ g. with_lines g.lines (more g.tally))
lines_then xs (Ok g) more = lines_twice xs g.lines (more g.tally)
lines_then xs (Err f) more = refl

-- rows after rows
pub reads_append : (deeper : Deeper) (texts : List Named) (outer : Option Place) (n : Tally) (rs ss : List Row) → read_rows deeper texts outer n (rs ++ ss) ≡ (read_rows deeper texts outer n rs >>= λ g. with_lines g.lines (read_rows deeper texts outer g.tally ss))
reads_append deeper texts outer n [] ss = sym (with_nothing (read_rows deeper texts outer n ss))
reads_append deeper texts outer n (r ∷ rs) ss = by_row (read_row deeper texts outer n r.end r.items) (λ m. reads_append deeper texts outer m rs ss)
  where
    by_row : (x : Result Got KeyFault) → ((m : Tally) → read_rows deeper texts outer m (rs ++ ss) ≡ (read_rows deeper texts outer m rs >>= λ g. with_lines g.lines (read_rows deeper texts outer g.tally ss)))
        → (x >>= λ g. with_lines g.lines (read_rows deeper texts outer g.tally (rs ++ ss)))
        ≡ ((x >>= λ g. with_lines g.lines (read_rows deeper texts outer g.tally rs)) >>= λ g. with_lines g.lines (read_rows deeper texts outer g.tally ss))
    by_row (Ok g) rest =
        ap (with_lines g.lines) (rest g.tally)
        ∙ lines_then g.lines (read_rows deeper texts outer g.tally rs) (λ m. read_rows deeper texts outer m ss)
    by_row (Err f) rest = refl

-- the last row of a text that ends a line is empty
no_row : (at : Place) → rows_of at [] ≡ row_of [] at ∷ []
unfolding rows_of
no_row at = refl

empty_read : (deeper : Deeper) (texts : List Named) (outer : Option Place) (n : Tally) (at : Place) → read_rows deeper texts outer n (rows_of at []) ≡ Ok (make_got [] n)
empty_read deeper texts outer n at =
    ap (read_rows deeper texts outer n) (no_row at) ∙ rows_empty deeper texts outer n (row_of [] at) [] no_word

-- what a text that ends a line gives: its rows, whatever follows
record Halves (texts : List Named) (at : Place) (n : Tally) (a : List ℕ) : Type 0 where
  front : Result Got KeyFault
  alone : read_from texts at n a ≡ front
  before : (b : List ℕ) → read_from texts at n (a ++ b) ≡ (front >>= λ g. with_lines g.lines (read_from texts (place_after_text at a) g.tally b))

halves : (texts : List Named) (at : Place) (n : Tally) (a : List ℕ) → IsTrue (is_ended a) → Halves texts at n a
halves texts at n a e =
    let p = parts at a e in
    let deeper = within most_deep texts in
    let front : Result Got KeyFault = read_rows deeper texts None n (p.first ∷ p.others) in
    let joined : (b : List ℕ) → read_from texts at n (a ++ b) ≡ (front >>= λ g. with_lines g.lines (read_from texts (place_after_text at a) g.tally b)) =
    λ b. ap (read_rows deeper texts None n) (rows_of_from at (a ++ b) ∙ p.same b) ∙ reads_append deeper texts None n (p.first ∷ p.others) (rows_of (place_after_text at a) b) in
    record {
      front = front;
      alone =
          ap (λ x. read_from texts at n x) (sym (append-nil a)) ∙ joined []
          ∙ then_nothing front (λ m. read_from texts (place_after_text at a) m []) (λ m. empty_read deeper texts None m (place_after_text at a));
      before = joined;
    }
  where
    then_nothing : (r : Result Got KeyFault) (more : Tally → Result Got KeyFault) → ((m : Tally) → more m ≡ Ok (make_got [] m)) → (r >>= λ g. with_lines g.lines (more g.tally)) ≡ r
    then_nothing (Ok g) more e = ap (with_lines g.lines) (e g.tally) ∙ ap (λ ls. Ok (make_got ls g.tally)) (append-nil g.lines)
    then_nothing (Err f) more e = refl

pub starts_there : StartsThere
unfolding lines_of
starts_there texts text = refl

pub texts_follow : TextsFollow
texts_follow texts at n a b g e ok =
    let h = halves texts at n a e in
    h.before b ∙ ap (λ r. r >>= λ g. with_lines g.lines (read_from texts (place_after_text at a) g.tally b)) (sym h.alone ∙ ok)

pub faults_stop : FaultsStop
faults_stop texts at n a b f e bad =
    let h = halves texts at n a e in
    h.before b ∙ ap (λ r. r >>= λ g. with_lines g.lines (read_from texts (place_after_text at a) g.tally b)) (sym h.alone ∙ bad)

fault_left : (xs : List KeymapLine) (r : Result Got KeyFault) (f : KeyFault) → with_lines xs r ≡ Err f → r ≡ Err f
fault_left xs (Ok g) f e = absurd (let h : Ok (make_got (xs ++ g.lines) g.tally) ≡ Err f = e in cc)
fault_left xs (Err d) f e = e

pub faults_are_first : FaultsAreFirst
faults_are_first texts at n a b f e bad = by_front (read_from texts at n a) refl
  where
    by_front : (x : Result Got KeyFault) → read_from texts at n a ≡ x
        → (read_from texts at n a ≡ Err f)
        ⊎ ((g : Got) × (read_from texts at n a ≡ Ok g) × (read_from texts (place_after_text at a) g.tally b ≡ Err f))
    by_front (Ok g) ok = inr (g, ok, fault_left g.lines (read_from texts (place_after_text at a) g.tally b) f (sym (texts_follow texts at n a b g e ok) ∙ bad))
    by_front (Err d) fails = inl (fails ∙ sym (faults_stop texts at n a b d e fails) ∙ bad)
