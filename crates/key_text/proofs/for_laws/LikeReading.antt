-- Texts have the same content if the words of their rows are read alike.
use Rattle.std.proofs.Common.{◌≡◌, ℕ, zero, suc, nat_le, Option, Some, None, unwrap_or, Result, Ok, Err, List, [], ◌∷◌, ◌++◌, length, refl, sym, ap, ◌∙◌, subst, arith}
use Rattle.std.specs.Option.{option_map}
use Rattle.key_text.proofs.for_laws.Like.{Alike}
use Rattle.key_text.proofs.for_laws.LikeLines.{Faults, IsKey, Says, a_line, an_include, like_key, no_line, row_says}
use Rattle.key_text.proofs.for_laws.Same.{Same, pick, then}
use Rattle.key_text.proofs.for_laws.SameBytes.{like_bytes, same_row}
use Rattle.key_text.specs.Fault.{fault, ◌>>=◌}
use Rattle.key_text.specs.FaultKinds.{TOO_LONG_INCLUDES, TOO_MANY_INCLUDES}
use Rattle.key_text.specs.Included.{Named, text_named}
use Rattle.key_text.specs.KeymapLine.{KeymapLine}
use Rattle.key_text.specs.Lines.{StatementView, statement_from}
use Rattle.key_text.specs.Reading.{Deeper, Got, at_outer_include, blamed_fault, got_from_row, make_got, got_from_include, lines_of, most_deep, read_row, read_row_by, read_rows, start, unless, with_lines, within}
use Rattle.key_text.specs.Rows.{Row, rows_of}
use Rattle.key_text.specs.SameWords.{SameBytes, SameRows, SameWords, WordsDecide, done, row, left, right, ended, word}
use Rattle.key_text.specs.Meanings.{meanings, meanings_or_fault}
use Rattle.key_text.specs.Tally.{MOST_INCLUDES, is_too_long, none_included, tally_after}
use Rattle.key_text.specs.Words.{place_of_word, word_at}
use Rattle.key_text.specs.declared.fault.KeyFault.{KeyFault}
use Rattle.key_text.specs.declared.placed.Place.{Place}
use Rattle.key_text.specs.declared.placed.Placed.{Placed}
use Rattle.key_text.specs.declared.tally.Tally.{Tally}

-- lines that tell the same, and the same tally
abbrev pub Gots : Got → Got → Type 0
Gots g h = (meanings g.lines ≡ meanings h.lines) × (g.tally ≡ h.tally)

-- two ways to read an included text tell the same
abbrev pub Deepers : Deeper → Deeper → Type 0
Deepers x y = (p q r s : Place) (b c : Option KeyFault) → Faults b c → (n : Tally) (text : List ℕ) → Same Gots (x p q b n text) (y r s c n text)

blames : {X Y : Type 0} (R : X → Y → Type 0) (a b : Option Place) (x : Result X KeyFault) (y : Result Y KeyFault) → Same R x y → Same R (at_outer_include a x) (at_outer_include b y)
blames R a b (Ok x) (Ok y) h = h
blames R a b (Ok x) (Err g) h = absurd h
blames R a b (Err f) (Ok y) h = absurd h
blames R a b (Err f) (Err g) h = h

at_outer_include_faults : (a b : Option Place) (x y : Option KeyFault) → Faults x y → Faults (option_map (blamed_fault a) x) (option_map (blamed_fault b) y)
at_outer_include_faults a b None None h = tt
at_outer_include_faults a b None (Some g) h = absurd h
at_outer_include_faults a b (Some f) None h = absurd h
at_outer_include_faults a b (Some f) (Some g) h = h

includeds : (x y : List ℕ → Result Got KeyFault) (p q : Place) (text : Option (List ℕ)) → ((t : List ℕ) → Same Gots (x t) (y t)) → Same Gots (got_from_include x p text) (got_from_include y q text)
includeds x y p q None h = refl
includeds x y p q (Some text) h = h text

givens : (x y : Deeper) (texts : List Named) (a b : Option Place) (p q : Place) (n : Tally) → Deepers x y → (s t : StatementView) → Says s t → Same Gots (got_from_row x texts a p n s) (got_from_row y texts b q n t)
givens x y texts a b p q n deep s t no_line = (refl, refl)
givens x y texts a b p q n deep s t (a_line meaning) = (refl, refl)
givens x y texts a b p q n deep s t (an_include name f g k l h) =
    includeds (x (unwrap_or a f) (unwrap_or a p) (option_map (blamed_fault a) k) n) (y (unwrap_or b g) (unwrap_or b q) (option_map (blamed_fault b) l) n) (unwrap_or a f) (unwrap_or b g) (text_named name texts)
    (λ text. deep (unwrap_or a f) (unwrap_or a p) (unwrap_or b g) (unwrap_or b q) (option_map (blamed_fault a) k) (option_map (blamed_fault b) l) (at_outer_include_faults a b k l h) n text)

-- two rows say the same by their first words, or have none
abbrev pub Sayings : Place → Place → Option (List Placed × List Placed) → Option (List Placed × List Placed) → Type 0
Sayings d e None None = Unit {0}
Sayings d e None (Some w) = ⊥
Sayings d e (Some v) None = ⊥
Sayings d e (Some v) (Some w) = Same Says (statement_from d v) (statement_from e w)

rows_by : (x y : Deeper) (texts : List Named) (a b : Option Place) (n : Tally) (d e : Place) → Deepers x y → (v w : Option (List Placed × List Placed)) → Sayings d e v w → Same Gots (read_row_by x texts a n d v) (read_row_by y texts b n e w)
rows_by x y texts a b n d e deep None None l = (refl, refl)
rows_by x y texts a b n d e deep None (Some w) l = absurd l
rows_by x y texts a b n d e deep (Some v) None l = absurd l
rows_by x y texts a b n d e deep (Some v) (Some w) l =
    then Says Gots (at_outer_include a (statement_from d v)) (at_outer_include b (statement_from e w)) _ _ (blames Says a b (statement_from d v) (statement_from e w) l)
    (λ s t k. givens x y texts a b (place_of_word v.0) (place_of_word w.0) n deep s t k)

row_reads : (x y : Deeper) (texts : List Named) (a b : Option Place) (n : Tally) (d e : Place) (i j : List Placed) → Deepers x y → Sayings d e (word_at i) (word_at j) → Same Gots (read_row x texts a n d i) (read_row y texts b n e j)
unfolding read_row
row_reads x y texts a b n d e i j deep s = rows_by x y texts a b n d e deep (word_at i) (word_at j) s

-- rows that are alike say the same
abbrev pub AreSaid : (List Placed → List Placed → Type 0) → Type 0
AreSaid alike = (i j : List Placed) → alike i j → (d e : Place) → Sayings d e (word_at i) (word_at j)

pub says_some : (d e : Place) (i j : List Placed) (v w : List Placed × List Placed) → word_at i ≡ Some v → word_at j ≡ Some w → IsKey v.0 w.0 → Alike v.1 w.1 → Sayings d e (word_at i) (word_at j)
says_some d e i j v w h k l s =
    subst (λ (x : Option (List Placed × List Placed)). Sayings d e x (word_at j)) (sym h)
    (subst (λ (y : Option (List Placed × List Placed)). Sayings d e (Some v) y) (sym k) (row_says d e v w (l, s)))

pub says_none : (d e : Place) (i j : List Placed) → word_at i ≡ None → word_at j ≡ None → Sayings d e (word_at i) (word_at j)
says_none d e i j h k =
    subst (λ (x : Option (List Placed × List Placed)). Sayings d e x (word_at j)) (sym h)
    (subst (λ (y : Option (List Placed × List Placed)). Sayings d e None y) (sym k) tt)

pub alike_said : AreSaid Alike
alike_said i j (ended _ _ h k) d e = says_none d e i j h k
alike_said i j (word _ _ v w h k l s) d e = says_some d e i j v w h k (like_key v.0 w.0 l) s

-- a row without a word
pub row_empty : (x : Deeper) (texts : List Named) (a : Option Place) (n : Tally) (d : Place) (i : List Placed) → word_at i ≡ None → read_row x texts a n d i ≡ Ok (make_got [] n)
unfolding read_row
row_empty x texts a n d i e = ap (read_row_by x texts a n d) e

pub with_nothing : (r : Result Got KeyFault) → with_lines [] r ≡ r
with_nothing (Ok g) = refl
with_nothing (Err f) = refl

pub rows_empty : (x : Deeper) (texts : List Named) (a : Option Place) (n : Tally) (r : Row) (rs : List Row) → word_at r.items ≡ None → read_rows x texts a n (r ∷ rs) ≡ read_rows x texts a n rs
rows_empty x texts a n r rs e =
    ap (λ read. read >>= λ g. with_lines g.lines (read_rows x texts a g.tally rs)) (row_empty x texts a n r.end r.items e)
    ∙ with_nothing (read_rows x texts a n rs)

tellings_more : (xs ys : List KeymapLine) → meanings (xs ++ ys) ≡ meanings xs ++ meanings ys
tellings_more [] ys = refl
tellings_more (x ∷ xs) ys = ap (λ ts. x.meaning ∷ ts) (tellings_more xs ys)

after_lines : (xs ys : List KeymapLine) → meanings xs ≡ meanings ys → (r s : Result Got KeyFault) → Same Gots r s → Same Gots (with_lines xs r) (with_lines ys s)
after_lines xs ys e (Ok g) (Ok h) l =
    (tellings_more xs g.lines ∙ ap (λ ts. ts ++ meanings g.lines) e ∙ ap (λ ts. meanings ys ++ ts) l.0 ∙ sym (tellings_more ys h.lines), l.1)
after_lines xs ys e (Ok g) (Err f) l = absurd l
after_lines xs ys e (Err f) (Ok h) l = absurd l
after_lines xs ys e (Err f) (Err g) l = l

rows_next : (x y : Deeper) (texts : List Named) (a b : Option Place) (n : Tally) (r s : Row) (rs ss : List Row) → Deepers x y → Sayings r.end s.end (word_at r.items) (word_at s.items)
    → ((n : Tally) → Same Gots (read_rows x texts a n rs) (read_rows y texts b n ss)) → Same Gots (read_rows x texts a n (r ∷ rs)) (read_rows y texts b n (s ∷ ss))
rows_next x y texts a b n r s rs ss deep like rest =
    then Gots Gots (read_row x texts a n r.end r.items) (read_row y texts b n s.end s.items) _ _ (row_reads x y texts a b n r.end s.end r.items s.items deep like)
    (λ g h l. after_lines g.lines h.lines l.0 (read_rows x texts a g.tally rs) (read_rows y texts b h.tally ss)
    (subst (λ (m : Tally). Same Gots (read_rows x texts a g.tally rs) (read_rows y texts b m ss)) l.1 (rest g.tally)))

pub rows_read : (alike : List Placed → List Placed → Type 0) → AreSaid alike → (x y : Deeper) (texts : List Named) (a b : Option Place) → Deepers x y → (rs ss : List Row) → SameRows alike rs ss → (n : Tally) → Same Gots (read_rows x texts a n rs) (read_rows y texts b n ss)
rows_read alike said x y texts a b deep rs ss done = λ n. (refl, refl)
rows_read alike said x y texts a b deep rs ss (row r s rs' ss' l t) = λ n. rows_next x y texts a b n r s rs' ss' deep (said r.items s.items l r.end s.end) (rows_read alike said x y texts a b deep rs' ss' t)
rows_read alike said x y texts a b deep rs ss (left r rs' _ e t) = λ n.
    subst (λ (z : Result Got KeyFault). Same Gots z (read_rows y texts b n ss)) (sym (rows_empty x texts a n r rs' e)) (rows_read alike said x y texts a b deep rs' ss t n)
rows_read alike said x y texts a b deep rs ss (right s _ ss' e t) = λ n.
    subst (λ (z : Result Got KeyFault). Same Gots (read_rows x texts a n rs) z) (sym (rows_empty y texts b n s ss' e)) (rows_read alike said x y texts a b deep rs ss' t n)

-- rows are alike to themselves
pub own_rows : (rs : List Row) → SameRows Alike rs rs
own_rows [] = done
own_rows (r ∷ rs) = row r r rs rs (same_row (length r.items) r.items (omega arith)) (own_rows rs)

unlesses : (b c : Option KeyFault) (r s : Result Got KeyFault) → Faults b c → Same Gots r s → Same Gots (unless b r) (unless c s)
unlesses None None r s f h = h
unlesses None (Some g) r s f h = absurd f
unlesses (Some g) None r s f h = absurd f
unlesses (Some g) (Some k) r s f h = f

pub deeper : (n : ℕ) (texts : List Named) → Deepers (within n texts) (within n texts)
deeper zero texts = λ p q r s b c f m text. refl
deeper (suc n) texts = λ p q r s b c f m text.
    pick Gots (nat_le MOST_INCLUDES m.texts) (nat_le MOST_INCLUDES m.texts) (Err (fault TOO_MANY_INCLUDES p)) _ (Err (fault TOO_MANY_INCLUDES r)) _ refl refl
    (pick Gots (is_too_long m.room (length text)) (is_too_long m.room (length text)) (Err (fault TOO_LONG_INCLUDES p)) _ (Err (fault TOO_LONG_INCLUDES r)) _ refl refl
    (let t = tally_after m (length text) in
    unlesses b c (read_rows (within n texts) texts (Some q) t (rows_of start text)) (read_rows (within n texts) texts (Some s) t (rows_of start text)) f
    (rows_read Alike alike_said (within n texts) (within n texts) texts (Some q) (Some s) (deeper n texts) (rows_of start text) (rows_of start text) (own_rows (rows_of start text)) t)))

pub tolds : (r s : Result Got KeyFault) → Same Gots r s → meanings_or_fault (r >>= λ g. Ok g.lines) ≡ meanings_or_fault (s >>= λ g. Ok g.lines)
tolds (Ok g) (Ok h) l = ap Ok l.0
tolds (Ok g) (Err f) l = absurd l
tolds (Err f) (Ok h) l = absurd l
tolds (Err f) (Err g) l = ap Err l

pub rows_decide : (alike : List Placed → List Placed → Type 0) → AreSaid alike → (texts : List Named) (a b : List ℕ) → SameRows alike (rows_of start a) (rows_of start b) → meanings_or_fault (lines_of texts a) ≡ meanings_or_fault (lines_of texts b)
unfolding lines_of
rows_decide alike said texts a b s =
    tolds (read_rows (within most_deep texts) texts None (none_included None) (rows_of start a)) (read_rows (within most_deep texts) texts None (none_included None) (rows_of start b))
    (rows_read alike said (within most_deep texts) (within most_deep texts) texts None None (deeper most_deep texts) (rows_of start a) (rows_of start b) s (none_included None))

-- from the same bytes to words that are read alike
pub words_alike : (i j : List Placed) → SameWords SameBytes i j → Alike i j
words_alike i j (ended _ _ e f) = ended i j e f
words_alike i j (word _ _ v w e f l s) = word i j v w e f (like_bytes v.0 w.0 l) (words_alike v.1 w.1 s)

pub words_said : AreSaid (SameWords SameBytes)
words_said i j s d e = alike_said i j (words_alike i j s) d e

pub words_decide : WordsDecide
words_decide texts a b s = rows_decide (SameWords SameBytes) words_said texts a b s
