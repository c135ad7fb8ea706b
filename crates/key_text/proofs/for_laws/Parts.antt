-- The rows of a text that ends a line, and of the text after it.
use Rattle.std.proofs.Common.{◌≡◌, ◌≢◌, ℕ, zero, suc, ◌==◌, ◌≤◌, ◌&&◌, not, true, cond, IsTrue, List, [], ◌∷◌, ◌++◌, length, refl, sym, ap, ◌∙◌, subst, inl, inr, arith}
use Rattle.std.proofs.lemmas.Bool.{and_parts, false≢true}
use Rattle.std.proofs.lemmas.Bool.Decides.{eqb_tells, nat_tests}
use Rattle.key_text.proofs.Turns.{Ends, byte_turn, crlf, ends, len_with_backslash_some, lf, no_line_feed, rows_from, rows_of_from}
use Rattle.key_text.specs.Cut.{end_len, join_len, len_with_backslash}
use Rattle.key_text.specs.Parted.{is_ended, is_line_end, place_after_text}
use Rattle.key_text.specs.Rows.{Row, after, backslash, place_after, carriage_return, line_feed, next_line, put_at, row_of, rows_of, with_item}
use Rattle.key_text.specs.declared.placed.Place.{Place}

-- the rows of a text that ends a line stand before those of what follows, whatever that is
pub record Parts (from here : Place) (text : List ℕ) : Type 0 where
  pub first : Row
  pub others : List Row
  pub same : (z : List ℕ) → rows_from from here (text ++ z) ≡ (first ∷ others) ++ rows_of (place_after_text here text) z

rest_ended : (b c : ℕ) (bs : List ℕ) → IsTrue (is_ended (b ∷ c ∷ bs)) → IsTrue (is_ended (c ∷ bs))
rest_ended b c bs h = (and_parts (not (b == backslash && is_line_end (c ∷ bs))) (is_ended (c ∷ bs)) h).1

end_alone : (b : ℕ) (bs z : List ℕ) → IsTrue (is_ended (b ∷ bs)) → end_len ((b ∷ bs) ++ z) ≡ end_len (b ∷ bs)
end_alone b (c ∷ bs) z h = refl
end_alone b [] z h = let feed : (b == line_feed) ≡ true = h in rw feed refl

join_alone : (b : ℕ) (bs z : List ℕ) → IsTrue (is_ended (b ∷ bs)) → join_len (b ∷ bs) ≡ 0 → join_len ((b ∷ bs) ++ z) ≡ 0
join_alone b (c ∷ bs) z h e = ap (λ n. cond (b == backslash) (len_with_backslash n) 0) (end_alone c bs z (rest_ended b c bs h)) ∙ e
join_alone b [] z h e = let feed : (b == line_feed) ≡ true = h in grind (arith, nat_tests)

-- no backslash stands before the text's last end
not_last : (bs : List ℕ) → IsTrue (is_line_end bs) → IsTrue (is_ended (backslash ∷ bs)) → ⊥
not_last [] h k = false≢true h
not_last (c ∷ bs) h k = false≢true (sym (ap (λ t. not t && is_ended (c ∷ bs)) h) ∙ k)

-- after a line's end comes nothing, or a text that ends a line
parts_end : (from here : Place) (bs : List ℕ) → Ends bs → IsTrue (is_ended bs) → ((rest : List ℕ) → suc (length rest) ≤ length bs → IsTrue (is_ended rest) → (at : Place) → Parts at at rest) → Parts from here bs
parts_end from here bs (lf []) h deeper = record {
  first = row_of [] here;
  others = [];
  same = λ z. ap (λ x. row_of [] here ∷ x) (sym (rows_of_from (next_line here) z));
}
parts_end from here bs (lf (c ∷ cs)) h deeper =
    let p = deeper (c ∷ cs) (omega arith) (rest_ended line_feed c cs h) (next_line here) in
    record {
      first = row_of [] here;
      others = p.first ∷ p.others;
      same = λ z. ap (λ x. row_of [] here ∷ x) (p.same z);
    }
parts_end from here bs (crlf []) h deeper = record {
  first = row_of [] here;
  others = [];
  same = λ z. ap (λ x. row_of [] here ∷ x) (sym (rows_of_from (next_line here) z));
}
parts_end from here bs (crlf (c ∷ cs)) h deeper =
    let p = deeper (c ∷ cs) (omega arith) (rest_ended line_feed c cs (rest_ended carriage_return line_feed (c ∷ cs) h)) (next_line here) in
    record {
      first = row_of [] here;
      others = p.first ∷ p.others;
      same = λ z. ap (λ x. row_of [] here ∷ x) (p.same z);
    }

parts_join : (from here : Place) (bs : List ℕ) → Ends bs → IsTrue (is_ended (backslash ∷ bs)) → ((rest : List ℕ) → suc (length rest) ≤ length bs → IsTrue (is_ended rest) → (at : Place) → Parts from at rest) → Parts from here (backslash ∷ bs)
parts_join from here bs (lf []) h deeper = absurd (not_last (line_feed ∷ []) refl h)
parts_join from here bs (lf (c ∷ cs)) h deeper =
    let p = deeper (c ∷ cs) (omega arith) (rest_ended line_feed c cs (rest_ended backslash line_feed (c ∷ cs) h)) (next_line here) in
    record { first = p.first; others = p.others; same = p.same }
parts_join from here bs (crlf []) h deeper = absurd (not_last (carriage_return ∷ line_feed ∷ []) refl h)
parts_join from here bs (crlf (c ∷ cs)) h deeper =
    let p = deeper (c ∷ cs) (omega arith) (rest_ended line_feed c cs (rest_ended carriage_return line_feed (c ∷ cs) (rest_ended backslash carriage_return (line_feed ∷ c ∷ cs) h))) (next_line here) in
    record { first = p.first; others = p.others; same = p.same }

parts_byte : (from here : Place) (b : ℕ) (bs : List ℕ) → end_len (b ∷ bs) ≡ 0 → join_len (b ∷ bs) ≡ 0 → IsTrue (is_ended (b ∷ bs)) → (IsTrue (is_ended bs) → Parts (after here) (after here) bs) → Parts from here (b ∷ bs)
parts_byte from here b [] e j h deeper = absurd (false≢true (sym (no_line_feed b [] e) ∙ h))
parts_byte from here b (c ∷ cs) e j h deeper =
    let p = deeper (rest_ended b c cs h) in
    let there : place_after here b ≡ after here = ap (λ t. cond t (next_line here) (after here)) (no_line_feed b (c ∷ cs) e) in
    record {
      first = row_of (put_at here b ∷ (p.first).items) (p.first).end;
      others = p.others;
      same = λ z.
          byte_turn from here b ((c ∷ cs) ++ z) (end_alone b (c ∷ cs) z h ∙ e) (join_alone b (c ∷ cs) z h j)
          ∙ ap (with_item (put_at here b)) (p.same z)
          ∙ ap (λ at. (row_of (put_at here b ∷ (p.first).items) (p.first).end ∷ p.others) ++ rows_of (place_after_text at (c ∷ cs)) z) (sym there);
    }

-- what begins a text: a line's end, a join or another byte
data Begins : List ℕ → Type 0 where
  an_end : (bs : List ℕ) → Ends bs → Begins bs
  a_join : (bs : List ℕ) → Ends bs → Begins (backslash ∷ bs)
  a_byte : (b : ℕ) (bs : List ℕ) → end_len (b ∷ bs) ≡ 0 → join_len (b ∷ bs) ≡ 0 → Begins (b ∷ bs)

begins : (b : ℕ) (bs : List ℕ) → Begins (b ∷ bs)
begins b bs = elim (eqb_tells (end_len (b ∷ bs)) 0) [
  | inr e ↦ an_end (b ∷ bs) (ends (b ∷ bs) e.1)
  | inl e ↦ elim (eqb_tells (join_len (b ∷ bs)) 0) [
    | inl f ↦ a_byte b bs e.1 f.1
    | inr f ↦ joined f.1
  ]
]
  where
    joined : join_len (b ∷ bs) ≢ 0 → Begins (b ∷ bs)
    joined some = elim (eqb_tells b backslash) [
      | inl g ↦ subst (λ (x : ℕ). Begins (x ∷ bs)) (sym g.1)
          (a_join bs (ends bs (len_with_backslash_some (end_len bs) (λ z. some (ap (λ t. cond t (len_with_backslash (end_len bs)) 0) g.0 ∙ z)))))
      | inr g ↦ absurd (some (ap (λ t. cond t (len_with_backslash (end_len bs)) 0) g.0))
    ]

parts_at : (from here : Place) (bs : List ℕ) → Begins bs → IsTrue (is_ended bs)
    → ((rest : List ℕ) → suc (length rest) ≤ length bs → IsTrue (is_ended rest) → (from at : Place) → Parts from at rest) → Parts from here bs
parts_at from here bs (an_end _ e) h deeper = parts_end from here bs e h (λ rest l k at. deeper rest l k at at)
parts_at from here bs (a_join cs e) h deeper = parts_join from here cs e h (λ rest l k at. deeper rest (omega (arith, l)) k from at)
parts_at from here bs (a_byte b cs e j) h deeper = parts_byte from here b cs e j h (λ k. deeper cs (omega arith) k (after here) (after here))

parts_up_to : (n : ℕ) (text : List ℕ) → length text ≤ n → IsTrue (is_ended text) → (from here : Place) → Parts from here text
parts_up_to n [] h e from here = absurd (false≢true e)
parts_up_to zero (b ∷ bs) h e from here = absurd (omega (arith, h))
parts_up_to (suc n) (b ∷ bs) h e from here = parts_at from here (b ∷ bs) (begins b bs) e (λ rest l k from at. parts_up_to n rest (omega (arith, l, h)) k from at)

pub parts : (at : Place) (text : List ℕ) → IsTrue (is_ended text) → Parts at at text
parts at text e = parts_up_to (length text) text (omega arith) e at at
