-- Ranges of tables that are marked one by one.
use Rattle.std.proofs.Common.{◌≡◌, ◌≢◌, ℕ, suc, ◌+◌, ◌<◌, ◌≤◌, Bool, true, false, ◌==◌, ◌||◌, cond, Result, Ok, Err, List, [], ◌∷◌, ◌++◌, length, take, drop, replicate, append_assoc, refl, sym, ap, ◌∙◌, subst, inl, inr, arith}
use Rattle.std.proofs.lemmas.Bool.Decides.{eqb_tells}
use Rattle.std.proofs.lemmas.Bool.{eq-eqb, le-leb}
use Rattle.std.proofs.lemmas.List.{get_or-replicate, length-replicate, take_all}
use Rattle.std.proofs.lemmas.List.Folds.{list_any_at}
use Rattle.std.proofs.lemmas.List.FromFn.{fill_by_all}
use Rattle.std.specs.List.{list_any, slice_index_or}
use Rattle.key_text.specs.Fault.{◌>>=◌}
use Rattle.key_text.specs.Lines.{before, comma, covers, table_marks, pieces, range_of, ranges_of, tables_in, with_byte}
use Rattle.key_text.specs.Tables.{IsTableSet, is_table_set}
use Rattle.key_text.specs.declared.fault.KeyFault.{KeyFault}
use Rattle.key_text.specs.declared.keymaps_line.TableRange.{TableRange}
use Rattle.key_text.specs.declared.placed.Placed.{Placed}

-- the tables below t of the range were added
pub record MarkedBelow (range : TableRange) (old new : List Bool) (t : ℕ) : Type 0 where
  pub full : length new ≡ 256
  pub below : (k : ℕ) → k < t → slice_index_or new k false ≡ (slice_index_or old k false || covers k range)
  pub above : (k : ℕ) → t ≤ k → slice_index_or new k false ≡ slice_index_or old k false

-- the tables are those of these ranges
pub record AreMarked (tables : List Bool) (ranges : List TableRange) : Type 0 where
  pub full : length tables ≡ 256
  pub each : (k : ℕ) → k < 256 → slice_index_or tables k false ≡ list_any (covers k) ranges

-- ranges before those that are read
abbrev pub with_ranges : List TableRange → Result (List TableRange) KeyFault → Result (List TableRange) KeyFault
with_ranges front read = read >>= λ ranges. Ok (front ++ ranges)

-- the ranges before the rest are marked
pub record AreRanged (word : List Placed) (text : List ℕ) (tables : List Bool) (rest : List ℕ) : Type 0 where
  pub front : List TableRange
  pub marks : AreMarked tables front
  pub same : with_ranges front (ranges_of word (pieces rest)) ≡ ranges_of word (pieces text)

pub marked_more : (tables new : List Bool) (front : List TableRange) (range : TableRange) → AreMarked tables front → length new ≡ 256 → ((k : ℕ) → k < 256 → slice_index_or new k false ≡ (slice_index_or tables k false || covers k range)) → AreMarked new (front ++ range ∷ [])
marked_more tables new front range marks long each = record {
  full = long;
  each = λ k h. each k h ∙ ap (λ b. b || covers k range) (marks.each k h) ∙ sym (any_more (covers k) front range);
}
  where
    or_false : (b : Bool) → b ≡ (b || false)
    or_false true = refl
    or_false false = refl

    or_assoc : (a b c : Bool) → (a || (b || c)) ≡ ((a || b) || c)
    or_assoc true b c = refl
    or_assoc false b c = refl

    any_more : (test : TableRange → Bool) (xs : List TableRange) (y : TableRange) → list_any test (xs ++ y ∷ []) ≡ (list_any test xs || test y)
    any_more test [] y = sym (or_false (test y))
    any_more test (x ∷ xs) y = ap (λ b. test x || b) (any_more test xs y) ∙ or_assoc (test x) (list_any test xs) (test y)

pub marked_none : (tables : List Bool) → tables ≡ replicate 256 false → AreMarked tables []
marked_none tables e = record {
  full = ap length e ∙ length-replicate 256 false;
  each = λ k h. ap (λ ts. slice_index_or ts k false) e ∙ get_or-replicate 256 k false false h;
}

pub marked_all : (tables : List Bool) (ranges : List TableRange) → AreMarked tables ranges → tables ≡ table_marks ranges
unfolding table_marks
marked_all tables ranges marks = fill_by_all (λ t. list_any (covers t) ranges) tables 256 false marks.full marks.each

-- a set with a range in order has a table
pub marked_set : (tables new : List Bool) (range : TableRange) → length new ≡ 256 → ((k : ℕ) → k < 256 → slice_index_or new k false ≡ (slice_index_or tables k false || covers k range)) → range.low ≤ range.high → range.high < 256 → IsTableSet new
marked_set tables new range long each order small = record {
  full = long;
  some = list_any_at (λ has. has) new range.low false (omega arith) (each range.low (omega arith) ∙ ap (λ b. slice_index_or tables range.low false || b) covered ∙ or_true (slice_index_or tables range.low false));
}
  where
    or_true : (b : Bool) → (b || true) ≡ true
    or_true true = refl
    or_true false = refl

    covered : covers range.low range ≡ true
    covered = rw (le-leb range.low range.low (omega arith), le-leb range.low range.high order) refl

pub are_set : (tables : List Bool) → IsTableSet tables → is_table_set tables ≡ true
are_set tables set = rw (eq-eqb (length tables) 256 set.full, set.some) refl

comma_first : (b : ℕ) (bs : List ℕ) → (b == comma) ≡ true → before comma (b ∷ bs) ≡ 0
comma_first b bs e = rw e refl

no_comma_first : (b : ℕ) (bs : List ℕ) → (b == comma) ≡ false → before comma (b ∷ bs) ≡ 1 + before comma bs
no_comma_first b bs e = rw e refl

pub pieces_last : (text : List ℕ) → before comma text ≡ length text → pieces text ≡ text ∷ []
pieces_last [] h = refl
pieces_last (b ∷ bs) h = elim (eqb_tells b comma) [
  | inl e ↦ absurd (not_none (before comma (b ∷ bs)) (length bs) (comma_first b bs e.0) h)
  | inr e ↦
      let rest : pieces bs ≡ bs ∷ [] = pieces_last bs (one_less (before comma bs) (length bs) (sym (no_comma_first b bs e.0) ∙ h)) in
      ap (λ t. cond t ([] ∷ pieces bs) (with_byte b (pieces bs))) e.0 ∙ ap (with_byte b) rest
]
  where
    not_none : (n len : ℕ) → n ≡ 0 → n ≡ suc len → ⊥
    not_none n len e f = omega arith

    one_less : (n len : ℕ) → 1 + n ≡ suc len → n ≡ len
    one_less n len e = omega arith

pieces_cut : (text : List ℕ) → before comma text < length text → pieces text ≡ take (before comma text) text ∷ pieces (drop (suc (before comma text)) text)
pieces_cut [] h = absurd (omega arith)
pieces_cut (b ∷ bs) h = elim (eqb_tells b comma) [
  | inl e ↦
      ap (λ t. cond t ([] ∷ pieces bs) (with_byte b (pieces bs))) e.0
      ∙ ap (λ n. take n (b ∷ bs) ∷ pieces (drop n bs)) (sym (comma_first b bs e.0))
  | inr e ↦
      let n = before comma bs in
      let within : n < length bs = one_fewer (before comma (b ∷ bs)) n (length bs) (no_comma_first b bs e.0) h in
      ap (λ t. cond t ([] ∷ pieces bs) (with_byte b (pieces bs))) e.0
      ∙ ap (with_byte b) (pieces_cut bs within)
      ∙ ap (λ m. take m (b ∷ bs) ∷ pieces (drop m bs)) (one_up (before comma (b ∷ bs)) n (no_comma_first b bs e.0))
]
  where
    one_fewer : (m n len : ℕ) → m ≡ 1 + n → m < suc len → n < len
    one_fewer m n len e h = omega arith

    one_up : (m n : ℕ) → m ≡ 1 + n → suc n ≡ m
    one_up m n e = omega arith

pub pieces_more : (text : List ℕ) → before comma text < length text → pieces text ≡ take (before comma text) text ∷ pieces (drop (before comma text + 1) text)
pieces_more text h = pieces_cut text h ∙ ap (λ m. take (before comma text) text ∷ pieces (drop m text)) (next_up (before comma text))
  where
    next_up : (n : ℕ) → suc n ≡ n + 1
    next_up n = omega arith

with_none : (read : Result (List TableRange) KeyFault) → with_ranges [] read ≡ read
with_none (Ok ranges) = refl
with_none (Err e) = refl

pub ranged_start : (word : List Placed) (text : List ℕ) (tables : List Bool) → tables ≡ replicate 256 false → AreRanged word text tables text
ranged_start word text tables e = record {
  front = [];
  marks = marked_none tables e;
  same = with_none (ranges_of word (pieces text));
}

moved : (front : List TableRange) (range : TableRange) (read : Result (List TableRange) KeyFault) → with_ranges front (read >>= λ ranges. Ok (range ∷ ranges)) ≡ with_ranges (front ++ range ∷ []) read
moved front range (Ok ranges) = ap Ok (sym (append_assoc front (range ∷ []) ranges))
moved front range (Err e) = refl

pub ranged_more : (word : List Placed) (text : List ℕ) (tables : List Bool) (rest : List ℕ) → AreRanged word text tables rest → (n : ℕ) → n ≡ before comma rest → n < length rest → (range : TableRange) → range_of word (take n rest) ≡ Ok range → (new : List Bool) → length new ≡ 256 → ((k : ℕ) → k < 256 → slice_index_or new k false ≡ (slice_index_or tables k false || covers k range)) → AreRanged word text new (drop (n + 1) rest)
ranged_more word text tables rest so_far n e h range good new long each =
    let left = pieces (drop (n + 1) rest) in
    let cut : pieces rest ≡ take n rest ∷ left =
    pieces_more rest (subst (λ (m : ℕ). m < length rest) e h)
    ∙ ap (λ m. take m rest ∷ pieces (drop (m + 1) rest)) (sym e) in
    record {
      front = so_far.front ++ range ∷ [];
      marks = marked_more tables new so_far.front range so_far.marks long each;
      same =
          sym (moved so_far.front range (ranges_of word left))
          ∙ ap (λ read. with_ranges so_far.front (read >>= λ r. ranges_of word left >>= λ rs. Ok (r ∷ rs))) (sym good)
          ∙ ap (λ ps. with_ranges so_far.front (ranges_of word ps)) (sym cut)
          ∙ so_far.same;
    }

pub ranged_last : (word : List Placed) (text : List ℕ) (tables : List Bool) (rest : List ℕ) → AreRanged word text tables rest → (n : ℕ) → n ≡ before comma rest → n ≡ length rest → (range : TableRange) → range_of word (take n rest) ≡ Ok range → (new : List Bool) → length new ≡ 256 → ((k : ℕ) → k < 256 → slice_index_or new k false ≡ (slice_index_or tables k false || covers k range)) → tables_in word text ≡ Ok new
ranged_last word text tables rest so_far n e h range good new long each =
    let cut : pieces rest ≡ take n rest ∷ [] = pieces_last rest (sym e ∙ h) ∙ ap (λ t. t ∷ []) (sym (take_all n rest (omega arith))) in
    let all : ranges_of word (pieces text) ≡ Ok (so_far.front ++ range ∷ []) =
    sym so_far.same
    ∙ ap (λ ps. with_ranges so_far.front (ranges_of word ps)) cut
    ∙ ap (λ read. with_ranges so_far.front (read >>= λ r. Ok (r ∷ []))) good in
    ap (λ read. read >>= λ ranges. Ok (table_marks ranges)) all
    ∙ ap Ok (sym (marked_all new (so_far.front ++ range ∷ []) (marked_more tables new so_far.front range so_far.marks long each)))

pub ranged_bad : (word : List Placed) (text : List ℕ) (tables : List Bool) (rest : List ℕ) → AreRanged word text tables rest → (n : ℕ) → n ≡ before comma rest → n ≤ length rest → (f : KeyFault) → range_of word (take n rest) ≡ Err f → tables_in word text ≡ Err f
ranged_bad word text tables rest so_far n e h f bad =
    elim (eqb_tells n (length rest)) [
      | inl last ↦
          let cut : pieces rest ≡ take n rest ∷ [] = pieces_last rest (sym e ∙ last.1) ∙ ap (λ t. t ∷ []) (sym (take_all n rest (at_end n (length rest) last.1))) in
          ap (λ read. read >>= λ ranges. Ok (table_marks ranges))
          (sym so_far.same
          ∙ ap (λ ps. with_ranges so_far.front (ranges_of word ps)) cut
          ∙ ap (λ read. with_ranges so_far.front (read >>= λ r. Ok (r ∷ []))) bad)
      | inr more ↦
          let left = pieces (drop (n + 1) rest) in
          let cut : pieces rest ≡ take n rest ∷ left =
          pieces_more rest (subst (λ (m : ℕ). m < length rest) e (below n (length rest) more.1 h))
          ∙ ap (λ m. take m rest ∷ pieces (drop (m + 1) rest)) (sym e) in
          ap (λ read. read >>= λ ranges. Ok (table_marks ranges))
          (sym so_far.same
          ∙ ap (λ ps. with_ranges so_far.front (ranges_of word ps)) cut
          ∙ ap (λ read. with_ranges so_far.front (read >>= λ r. ranges_of word left >>= λ rs. Ok (r ∷ rs))) bad)
    ]
  where
    at_end : (n len : ℕ) → n ≡ len → len ≤ n
    at_end n len e = omega arith

    below : (n len : ℕ) → n ≢ len → n ≤ len → n < len
    below n len ne h = omega arith
