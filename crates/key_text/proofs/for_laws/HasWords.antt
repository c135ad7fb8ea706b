-- Rows that have given words.
use Rattle.std.proofs.Common.{◌≡◌, ℕ, Some, None, List, [], ◌∷◌, refl, sym, ◌∙◌, subst}
use Rattle.key_text.specs.Rows.{Row}
use Rattle.key_text.specs.SameWords.{SameBytes, SameRows, SameWords, ended as both_end, word as both_word, done as both_done, row as both_row, left, right}
use Rattle.key_text.specs.Words.{bytes, word_at}
use Rattle.key_text.specs.declared.placed.Placed.{Placed}

pub data HasWords : List (List ℕ) → List Placed → Type 0 where
  none_left : (i : List Placed) → word_at i ≡ None → HasWords [] i
  one_more : (w : List ℕ) (ws : List (List ℕ)) (i : List Placed) (v : List Placed × List Placed) → word_at i ≡ Some v → bytes v.0 ≡ w → HasWords ws v.1 → HasWords (w ∷ ws) i

pub data HasRows : List (List (List ℕ)) → List Row → Type 0 where
  no_row : HasRows [] []
  a_row : (ws : List (List ℕ)) (wss : List (List (List ℕ))) (r : Row) (rs : List Row) → HasWords ws r.items → HasRows wss rs → HasRows (ws ∷ wss) (r ∷ rs)
  an_empty : (wss : List (List (List ℕ))) (r : Row) (rs : List Row) → HasWords [] r.items → HasRows wss rs → HasRows wss (r ∷ rs)

pub moved : (ws : List (List ℕ)) (i j : List Placed) → HasWords ws j → word_at i ≡ word_at j → HasWords ws i
moved ws i j (none_left _ e) h = none_left i (h ∙ e)
moved ws i j (one_more w rest _ v e f t) h = one_more w rest i v (h ∙ e) f t

pub head_same : {X : Type 0} (x y : X) (xs ys : List X) → x ∷ xs ≡ y ∷ ys → x ≡ y
head_same x y xs ys e = cc

pub tail_same : {X : Type 0} (x y : X) (xs ys : List X) → x ∷ xs ≡ y ∷ ys → xs ≡ ys
tail_same x y xs ys e = cc

not_nil : {X : Type 0} (x : X) (xs : List X) → [] ≡ x ∷ xs → ⊥
not_nil x xs e = cc

pub none_there : (ws : List (List ℕ)) (i : List Placed) → HasWords ws i → [] ≡ ws → word_at i ≡ None
none_there ws i (none_left _ e) h = e
none_there ws i (one_more w rest _ v e f t) h = absurd (not_nil w rest h)

second_none : (i j : List Placed) → word_at i ≡ None → (ws : List (List ℕ)) → HasWords ws j → [] ≡ ws → SameWords SameBytes i j
second_none i j e ws h k = both_end i j e (none_there ws j h k)

second_word : (i j : List Placed) (w : List ℕ) (ws : List (List ℕ)) (v : List Placed × List Placed) → word_at i ≡ Some v → bytes v.0 ≡ w
    → ((j : List Placed) → HasWords ws j → SameWords SameBytes v.1 j) → (us : List (List ℕ)) → HasWords us j → us ≡ w ∷ ws → SameWords SameBytes i j
second_word i j w ws v e f rest us (none_left _ k) h = absurd (not_nil w ws h)
second_word i j w ws v e f rest us (one_more u uss _ x k l t) h =
    both_word i j v x e k (f ∙ sym (head_same u w uss ws h) ∙ sym l)
    (rest x.1 (subst (λ (y : List (List ℕ)). HasWords y x.1) (tail_same u w uss ws h) t))

pub same_words : (ws : List (List ℕ)) (i j : List Placed) → HasWords ws i → HasWords ws j → SameWords SameBytes i j
same_words ws i j (none_left _ e) k = second_none i j e [] k refl
same_words ws i j (one_more w rest _ v e f t) k = second_word i j w rest v e f (λ j' k'. same_words rest v.1 j' t k') (w ∷ rest) k refl

rows_none : (wss : List (List (List ℕ))) (ss : List Row) → HasRows wss ss → [] ≡ wss → SameRows (SameWords SameBytes) [] ss
rows_none wss ss no_row h = both_done
rows_none wss ss (a_row ws rest s ss' t k) h = absurd (not_nil ws rest h)
rows_none wss ss (an_empty _ s ss' t k) h = right s [] ss' (none_there [] s.items t refl) (rows_none wss ss' k h)

rows_row : (ws : List (List ℕ)) (wss : List (List (List ℕ))) (r : Row) (rs : List Row) → HasWords ws r.items
    → ((ss : List Row) → HasRows wss ss → SameRows (SameWords SameBytes) rs ss) → (uss : List (List (List ℕ))) (ss : List Row) → HasRows uss ss → uss ≡ ws ∷ wss → SameRows (SameWords SameBytes) (r ∷ rs) ss
rows_row ws wss r rs t rest uss ss no_row h = absurd (not_nil ws wss h)
rows_row ws wss r rs t rest uss ss (a_row us uss' s ss' k l) h =
    both_row r s rs ss'
    (same_words ws r.items s.items t (subst (λ (x : List (List ℕ)). HasWords x s.items) (head_same us ws uss' wss h) k))
    (rest ss' (subst (λ (x : List (List (List ℕ))). HasRows x ss') (tail_same us ws uss' wss h) l))
rows_row ws wss r rs t rest uss ss (an_empty _ s ss' k l) h =
    right s (r ∷ rs) ss' (none_there [] s.items k refl) (rows_row ws wss r rs t rest uss ss' l h)

pub same_rows : (wss : List (List (List ℕ))) (rs : List Row) → HasRows wss rs → (ss : List Row) → HasRows wss ss → SameRows (SameWords SameBytes) rs ss
same_rows wss rs no_row ss k = rows_none [] ss k refl
same_rows wss rs (a_row ws rest r rs' t l) ss k = rows_row ws rest r rs' t (same_rows rest rs' l) (ws ∷ rest) ss k refl
same_rows wss rs (an_empty _ r rs' t l) ss k = left r rs' ss (none_there [] r.items t refl) (same_rows wss rs' l ss k)
