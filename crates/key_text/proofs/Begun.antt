-- A row that has begun.
use Rattle.std.proofs.Common.{◌≡◌, ◌≢◌, ℕ, suc, ◌+◌, ◌<◌, ◌≤◌, List, [], ◌∷◌, ◌++◌, length, drop, get_or, append-nil, drop-cons, sym, ap, ◌∙◌, subst, arith}
use Rattle.std.proofs.lemmas.List.{drop-drop, drop_all}
use Rattle.key_text.specs.Cut.{end_len, join_len}
use Rattle.key_text.specs.Rows.{after, next_line, put_at, row_of, rows_of}
use Rattle.key_text.specs.declared.placed.Place.{Place}
use Rattle.key_text.specs.declared.placed.Placed.{Placed}
use Rattle.key_text.proofs.Turns.{byte_turn, end_turn, join_turn, rows_from, rows_of_from, with_items, with_items_more, with_items_row}

-- the row that starts at `at` has these bytes so far, and i is the index of the next one
pub record HasBegun (text : List ℕ) (at : ℕ) (place : Place) (items : List Placed) (end here : Place) (i : ℕ) : Type 0 where
  pub from : at ≤ i
  pub within : i ≤ length text
  pub same : rows_of place (drop at text) ≡ with_items items (rows_from end here (drop i text))

pub begun : (text : List ℕ) (at : ℕ) (place : Place) (items : List Placed) → at ≤ length text → items ≡ [] → HasBegun text at place items place place at
begun text at place items h e = record {
  from = omega arith;
  within = h;
  same = rows_of_from place (drop at text) ∙ ap (λ ps. with_items ps (rows_from place place (drop at text))) (sym e);
}

-- bytes that aren't looked at one by one
further : (i n : ℕ) (text : List ℕ) → drop n (drop i text) ≡ drop (i + n) text
further i n text = drop-drop n i text

pub begun_ended : (text : List ℕ) (at : ℕ) (place : Place) (items : List Placed) (end here : Place) (i : ℕ) → HasBegun text at place items end here i → (n : ℕ) → n ≡ end_len (drop i text) → n ≢ 0 → rows_of place (drop at text) ≡ row_of items here ∷ rows_of (next_line here) (drop (i + n) text)
begun_ended text at place items end here i begun n e some =
    begun.same
    ∙ ap (with_items items) (end_turn end here (drop i text) (λ z. some (e ∙ z)))
    ∙ with_items_row items [] here (rows_from (next_line here) (next_line here) (drop (end_len (drop i text)) (drop i text)))
    ∙ ap (λ ps. row_of ps here ∷ rows_from (next_line here) (next_line here) (drop (end_len (drop i text)) (drop i text))) (append-nil items)
    ∙ ap (λ rest. row_of items here ∷ rows_from (next_line here) (next_line here) rest) (ap (λ m. drop m (drop i text)) (sym e) ∙ further i n text)
    ∙ ap (λ rows. row_of items here ∷ rows) (sym (rows_of_from (next_line here) (drop (i + n) text)))

pub begun_joined : (text : List ℕ) (at : ℕ) (place : Place) (items : List Placed) (end here : Place) (i : ℕ) → HasBegun text at place items end here i → (n : ℕ) → n ≡ join_len (drop i text) → n ≢ 0 → i + n ≤ length text → HasBegun text at place items end (next_line here) (i + n)
begun_joined text at place items end here i begun n e some bound = record {
  from = omega (arith, begun.from);
  within = bound;
  same =
      begun.same
      ∙ ap (with_items items) (join_turn end here (drop i text) (λ z. some (e ∙ z)))
      ∙ ap (λ rest. with_items items (rows_from end (next_line here) rest)) (ap (λ m. drop m (drop i text)) (sym e) ∙ further i n text);
}

pub begun_byte : (text : List ℕ) (at : ℕ) (place : Place) (items : List Placed) (end here : Place) (i : ℕ) → HasBegun text at place items end here i → i < length text → end_len (drop i text) ≡ 0 → join_len (drop i text) ≡ 0 → HasBegun text at place (items ++ put_at here (get_or text i 0) ∷ []) (after here) (after here) (i + 1)
begun_byte text at place items end here i begun h no_end no_join =
    let b = get_or text i 0 in
    let bs = drop (suc i) text in
    let here_is : drop i text ≡ b ∷ bs = drop-cons text i 0 h in
    record {
      from = omega (arith, begun.from);
      within = omega arith;
      same =
          begun.same
          ∙ ap (λ rest. with_items items (rows_from end here rest)) here_is
          ∙ ap (with_items items) (byte_turn end here b bs (sym (ap end_len here_is) ∙ no_end) (sym (ap join_len here_is) ∙ no_join))
          ∙ sym (with_items_more items (put_at here b) (rows_from (after here) (after here) bs))
          ∙ ap (λ n. with_items (items ++ put_at here b ∷ []) (rows_from (after here) (after here) (drop n text))) (let e : suc i ≡ i + 1 = omega arith in e);
    }

pub begun_left : (text : List ℕ) (at : ℕ) (place : Place) (items : List Placed) (end here : Place) (i : ℕ) → HasBegun text at place items end here i → length text ≤ i → rows_of place (drop at text) ≡ row_of items end ∷ []
begun_left text at place items end here i begun h =
    begun.same
    ∙ ap (λ rest. with_items items (rows_from end here rest)) (drop_all i text h)
    ∙ with_items_row items [] end []
    ∙ ap (λ ps. row_of ps end ∷ []) (append-nil items)

-- the same, as the loop leaves it
pub begun_pushed : (text : List ℕ) (at : ℕ) (place : Place) (items : List Placed) (end here : Place) (i : ℕ) → HasBegun text at place items end here i → i < length text → end_len (drop i text) ≡ 0 → join_len (drop i text) ≡ 0 → (p : Placed) → p ≡ put_at here (get_or text i 0) → (pushed : List Placed) → pushed ≡ items ++ p ∷ [] → (behind : Place) → behind ≡ after here → HasBegun text at place pushed behind behind (i + 1)
begun_pushed text at place items end here i begun h no_end no_join p put pushed e behind f =
    subst (λ (ps : List Placed). HasBegun text at place ps behind behind (i + 1)) (sym (e ∙ ap (λ q. items ++ q ∷ []) put))
    (subst (λ (to : Place). HasBegun text at place (items ++ put_at here (get_or text i 0) ∷ []) to to (i + 1)) (sym f)
    (begun_byte text at place items end here i begun h no_end no_join))

pub begun_skipped : (text : List ℕ) (at : ℕ) (place : Place) (items : List Placed) (end here : Place) (i : ℕ) → HasBegun text at place items end here i → (n : ℕ) → n ≡ join_len (drop i text) → n ≢ 0 → i + n ≤ length text → (to : Place) → to ≡ next_line here → HasBegun text at place items end to (i + n)
begun_skipped text at place items end here i begun n e some bound to f =
    subst (λ (next : Place). HasBegun text at place items end next (i + n)) (sym f)
    (begun_joined text at place items end here i begun n e some bound)
