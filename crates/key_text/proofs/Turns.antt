-- One turn of the reading of a row: a line's end, a join, or another byte.
use Rattle.std.proofs.Common.{◌≡◌, ◌≢◌, ℕ, ◌+◌, false, ◌==◌, ◌&&◌, cond, List, [], ◌∷◌, ◌++◌, drop, refl, sym, ap, ◌∙◌, subst, inl, inr, arith}
use Rattle.std.proofs.lemmas.Bool.Decides.{eqb_tells, nat_tests}
use Rattle.key_text.specs.Cut.{end_len, join_len, len_with_backslash, lf_len}
use Rattle.key_text.specs.Rows.{Row, after, begins_end, begins_lf, join_continuations, next_line, with_places, put_at, row_of, rows, rows_of, with_item}
use Rattle.key_text.specs.declared.placed.Place.{Place}
use Rattle.key_text.specs.declared.placed.Placed.{Placed}

-- the rows of what is left, where the row so far ends at `end` and the next byte stands here
abbrev pub rows_from : Place → Place → List ℕ → List Row
rows_from end here bytes = rows end (join_continuations (with_places here bytes))

pub rows_of_from : (at : Place) (bytes : List ℕ) → rows_of at bytes ≡ rows_from at at bytes
unfolding rows_of
rows_of_from at bytes = refl

-- the bytes of a row that has begun, before the rows of what follows
abbrev pub with_items : List Placed → List Row → List Row
with_items [] left = left
with_items (p ∷ ps) left = with_item p (with_items ps left)

pub with_items_row : (ps qs : List Placed) (end : Place) (left : List Row) → with_items ps (row_of qs end ∷ left) ≡ row_of (ps ++ qs) end ∷ left
with_items_row [] qs end left = refl
with_items_row (p ∷ ps) qs end left = ap (with_item p) (with_items_row ps qs end left)

pub with_items_more : (ps : List Placed) (p : Placed) (left : List Row) → with_items (ps ++ p ∷ []) left ≡ with_items ps (with_item p left)
with_items_more [] p left = refl
with_items_more (q ∷ ps) p left = ap (with_item q) (with_items_more ps p left)

-- what begins with a line's end
pub data Ends : List ℕ → Type 0 where
  lf : (bs : List ℕ) → Ends (10 ∷ bs)
  crlf : (bs : List ℕ) → Ends (13 ∷ 10 ∷ bs)

at_lf : (bs : List ℕ) → lf_len bs + lf_len bs ≢ 0 → (cs : List ℕ) × (bs ≡ 10 ∷ cs)
at_lf [] h = absurd (h refl)
at_lf (b ∷ bs) h = elim (eqb_tells b 10) [
  | inl e ↦ (bs, ap (λ x. x ∷ bs) e.1)
  | inr e ↦ absurd (h (ap (λ t. cond t 1 0 + cond t 1 0) e.0))
]

pub ends : (bytes : List ℕ) → end_len bytes ≢ 0 → Ends bytes
ends [] h = absurd (h refl)
ends (b ∷ bs) h = elim (eqb_tells b 10) [
  | inl e ↦ subst (λ (x : ℕ). Ends (x ∷ bs)) (sym e.1) (lf bs)
  | inr e ↦ elim (eqb_tells b 13) [
    | inl f ↦
        let some : lf_len bs + lf_len bs ≢ 0 = λ z. h (subst (λ (x : ℕ). end_len (x ∷ bs) ≡ 0) (sym f.1) z) in
        let w = at_lf bs some in
        subst (λ (x : ℕ). Ends (x ∷ bs)) (sym f.1) (subst (λ (t : List ℕ). Ends (13 ∷ t)) (sym w.1) (crlf w.0))
    | inr f ↦ absurd (h (ap (λ t. cond t 1 (cond (b == 13) (lf_len bs + lf_len bs) 0)) e.0 ∙ ap (λ t. cond t (lf_len bs + lf_len bs) 0) f.0))
  ]
]

end_turn_at : (end here : Place) (bytes : List ℕ) → Ends bytes → rows_from end here bytes ≡ row_of [] here ∷ rows_from (next_line here) (next_line here) (drop (end_len bytes) bytes)
end_turn_at end here bytes (lf bs) = refl
end_turn_at end here bytes (crlf bs) = refl

pub end_turn : (end here : Place) (bytes : List ℕ) → end_len bytes ≢ 0 → rows_from end here bytes ≡ row_of [] here ∷ rows_from (next_line here) (next_line here) (drop (end_len bytes) bytes)
end_turn end here bytes h = end_turn_at end here bytes (ends bytes h)

join_turn_at : (end here : Place) (bs : List ℕ) → Ends bs → rows_from end here (92 ∷ bs) ≡ rows_from end (next_line here) (drop (join_len (92 ∷ bs)) (92 ∷ bs))
join_turn_at end here bs (lf cs) = refl
join_turn_at end here bs (crlf cs) = refl

pub len_with_backslash_some : (n : ℕ) → len_with_backslash n ≢ 0 → n ≢ 0
len_with_backslash_some n h e = h (subst (λ (m : ℕ). len_with_backslash m ≡ 0) (sym e) refl)

pub join_turn : (end here : Place) (bytes : List ℕ) → join_len bytes ≢ 0 → rows_from end here bytes ≡ rows_from end (next_line here) (drop (join_len bytes) bytes)
join_turn end here [] h = absurd (h refl)
join_turn end here (b ∷ bs) h = elim (eqb_tells b 92) [
  | inl e ↦
      let some : len_with_backslash (end_len bs) ≢ 0 = λ z. h (subst (λ (x : ℕ). join_len (x ∷ bs) ≡ 0) (sym e.1) z) in
      subst (λ (x : ℕ). rows_from end here (x ∷ bs) ≡ rows_from end (next_line here) (drop (join_len (x ∷ bs)) (x ∷ bs))) (sym e.1)
      (join_turn_at end here bs (ends bs (len_with_backslash_some (end_len bs) some)))
  | inr e ↦ absurd (h (ap (λ t. cond t (len_with_backslash (end_len bs)) 0) e.0))
]

no_lf : (at : Place) (bs : List ℕ) → lf_len bs ≡ 0 → begins_lf (with_places at bs) ≡ false
no_lf at [] h = refl
no_lf at (b ∷ bs) h = grind (arith, nat_tests)

no_end : (at : Place) (bs : List ℕ) → end_len bs ≡ 0 → begins_end (with_places at bs) ≡ false
no_end at [] h = refl
no_end at (b ∷ bs) h = grind (arith, nat_tests, no_lf (after at) bs)

pub no_line_feed : (b : ℕ) (bs : List ℕ) → end_len (b ∷ bs) ≡ 0 → (b == 10) ≡ false
no_line_feed b bs h = grind (arith, nat_tests)

no_cr : (at : Place) (b : ℕ) (bs : List ℕ) → end_len (b ∷ bs) ≡ 0 → (b == 13 && begins_lf (with_places at bs)) ≡ false
no_cr at b bs h = grind (arith, nat_tests, no_lf at bs)

len_with_backslash_none : (n : ℕ) → len_with_backslash n ≡ 0 → n ≡ 0
len_with_backslash_none n h = grind (arith, nat_tests)

no_join : (at : Place) (b : ℕ) (bs : List ℕ) → join_len (b ∷ bs) ≡ 0 → (b == 92 && begins_end (with_places at bs)) ≡ false
no_join at b bs h = grind (arith, nat_tests, no_end at bs, len_with_backslash_none (end_len bs))

pub byte_turn : (end here : Place) (b : ℕ) (bs : List ℕ) → end_len (b ∷ bs) ≡ 0 → join_len (b ∷ bs) ≡ 0 → rows_from end here (b ∷ bs) ≡ with_item (put_at here b) (rows_from (after here) (after here) bs)
byte_turn end here b bs h k =
    let not_lf : (b == 10) ≡ false = no_line_feed b bs h in
    let not_join : (b == 92 && begins_end (with_places (after here) bs)) ≡ false = no_join (after here) b bs k in
    let not_cr : (b == 13 && begins_lf (with_places (after here) bs)) ≡ false = no_cr (after here) b bs h in
    rw (not_lf, not_join, not_cr, not_lf) refl
