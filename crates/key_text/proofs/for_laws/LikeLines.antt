-- A row has the same statement if its words are read alike.
use Rattle.std.proofs.Common.{◌≡◌, ℕ, zero, suc, ◌+◌, ◌==◌, ◌<◌, ◌≤◌, Bool, true, false, cond, IsTrue, bit_or, Option, Some, None, Result, Ok, Err, List, [], ◌∷◌, ◌++◌, length, codes, refl, sym, ap, ◌∙◌, subst, arith}
use Rattle.std.specs.Result.{result_err}
use Rattle.std.proofs.lemmas.Bool.{false≢true}
use Rattle.std.specs.Str.Lossy.{utf8_valid_len}
use Rattle.key_syms.specs.Act.{Act}
use Rattle.key_text.proofs.for_laws.Like.{Alike, Like, Nexts, Words, begins_key, nexts, taking}
use Rattle.key_text.proofs.for_laws.LikeFields.{Equal, Texts, With, actions, characters, coding, ending, functions, keywords, strings, symbolic, texts}
use Rattle.key_text.proofs.for_laws.Same.{Same, pick, then}
use Rattle.key_text.proofs.for_laws.Shorter.{shorter}
use Rattle.key_text.specs.Fault.{fault, ◌>>=◌}
use Rattle.key_text.specs.FaultKinds.{BAD_TEXT, UNKNOWN_WORD}
use Rattle.key_text.specs.Fields.{action_of, character_at, code_at, end_of_line, function_at, keyword_at, string_at, symbol_at, symbols_after, symbols_at, text_at, with_actions}
use Rattle.key_text.specs.KeymapLine.{LineMeaning, alt_is_meta, compose, keymaps, keys, one, string, usual_pairs, usual_strings}
use Rattle.key_text.specs.Lines.{StatementView, after_charset, alt_is_meta_line, charset_line, compose_line, include_line, includes, is_next, is_next_by, keymaps_line, keys_line, line_by, modified_by, modified_line, modifiers_at, modifiers_by, nothing, pair_line, pair_of, statement_from, string_line, tables_in, means, usual_pairs_line, usual_strings_line, weight_of}
use Rattle.key_text.specs.SameWords.{ended as done, word}
use Rattle.key_text.specs.Words.{bytes, is_word, next, nth_place, place_of_word, required_word, whole, word_at}
use Rattle.key_text.specs.declared.fault.KeyFault.{KeyFault}
use Rattle.key_text.specs.declared.placed.Place.{Place}
use Rattle.key_text.specs.declared.placed.Placed.{Placed}

-- faults of one kind, or none
abbrev pub Faults : Option KeyFault → Option KeyFault → Type 0
Faults None None = Unit {0}
Faults None (Some g) = ⊥
Faults (Some f) None = ⊥
Faults (Some f) (Some g) = f.kind ≡ g.kind

-- rows that say the same
pub data Says : StatementView → StatementView → Type 0 where
  no_line : Says nothing nothing
  a_line : (t : LineMeaning) → Says (means t) (means t)
  an_include : (name : List ℕ) (p q : Place) (b c : Option KeyFault) → Faults b c → Says (includes name p b) (includes name q c)

tells_same : (t u : LineMeaning) → t ≡ u → Says (means t) (means u)
tells_same t u e = subst (λ (x : LineMeaning). Says (means t) (means x)) e (a_line t)

includes_same : (n m : List ℕ) (p q : Place) (b c : Option KeyFault) → n ≡ m → Faults b c → Says (includes n p b) (includes m q c)
includes_same n m p q b c e f = subst (λ (x : List ℕ). Says (includes n p b) (includes x q c)) e (an_include n p q b c f)

pub keymaps_says : (d e : Place) (i j : List Placed) → Alike i j → Same Says (keymaps_line d i) (keymaps_line e j)
unfolding keymaps_line
keymaps_says d e i j s =
    then Words Says (next UNKNOWN_WORD d i) (next UNKNOWN_WORD e j) _ _ (taking UNKNOWN_WORD d e i j s)
    (λ v w l. then Equal Says (tables_in v.0 (bytes v.0)) (tables_in w.0 (bytes w.0)) _ _ (l.0).tables
    (λ x y t. then Equal Says (end_of_line v.1) (end_of_line w.1) _ _ (ending v.1 w.1 l.1)
    (λ _ _ _. tells_same (keymaps x) (keymaps y) (ap keymaps t))))

-- two words that are the same keywords
pub record IsKey (v w : List Placed) : Type 0 where
  pub valid : (utf8_valid_len (bytes v) == length v) ≡ (utf8_valid_len (bytes w) == length w)
  pub keyword : (text : List ℕ) → IsTrue (begins_key text) → is_word text v ≡ is_word text w

pub like_key : (v w : List Placed) → Like v w → IsKey v w
like_key v w l = record { valid = l.valid; keyword = l.keyword }

-- a word that is come to in both
whole_choice : {A B : Type 0} (S : A → B → Type 0) (v w : List Placed × List Placed) (b c : Bool) (d e : KeyFault) (f : List Placed × List Placed → Result A KeyFault) (g : List Placed × List Placed → Result B KeyFault)
    → b ≡ c → d.kind ≡ e.kind → Same S (f v) (g w) → Same S (cond b (Ok v) (Err d) >>= f) (cond c (Ok w) (Err e) >>= g)
whole_choice S v w true true d e f g same kinds h = h
whole_choice S v w true false d e f g same kinds h = absurd (false≢true (sym same))
whole_choice S v w false true d e f g same kinds h = absurd (false≢true same)
whole_choice S v w false false d e f g same kinds h = kinds

pub whole-then : {A B : Type 0} (S : A → B → Type 0) (v w : List Placed × List Placed) (f : List Placed × List Placed → Result A KeyFault) (g : List Placed × List Placed → Result B KeyFault)
    → IsKey v.0 w.0 → Same S (f v) (g w) → Same S (whole v >>= f) (whole w >>= g)
unfolding whole
whole-then S v w f g l h =
    whole_choice S v w (utf8_valid_len (bytes v.0) == length v.0) (utf8_valid_len (bytes w.0) == length w.0)
    (fault BAD_TEXT (nth_place v.0 (utf8_valid_len (bytes v.0)))) (fault BAD_TEXT (nth_place w.0 (utf8_valid_len (bytes w.0)))) f g l.valid refl h

-- symbols up to the row's end
symbols_end : (n : ℕ) (i : List Placed) → word_at i ≡ None → symbols_at n i ≡ Ok []
symbols_end zero i e = refl
symbols_end (suc n) i e = ap (symbols_after (symbols_at n)) e

symbols_ends : (n m : ℕ) (i j : List Placed) → word_at i ≡ None → word_at j ≡ None → Same Equal (symbols_at n i) (symbols_at m j)
symbols_ends n m i j e f =
    subst (λ (x : Result (List Act) KeyFault). Same Equal x (symbols_at m j)) (sym (symbols_end n i e))
    (subst (λ (y : Result (List Act) KeyFault). Same Equal (Ok []) y) (sym (symbols_end m j f)) refl)

symbols-next : (n m : ℕ) (v w : List Placed × List Placed) → Like v.0 w.0 → Same Equal (symbols_at n v.1) (symbols_at m w.1) → Same Equal (symbols_after (symbols_at n) (Some v)) (symbols_after (symbols_at m) (Some w))
symbols-next n m v w l rest =
    whole-then Equal v w _ _ (like_key v.0 w.0 l)
    (then Equal Equal (action_of v.0) (action_of w.0) _ _ (actions v.0 w.0 l)
    (λ a b e. then Equal Equal (symbols_at n v.1) (symbols_at m w.1) _ _ rest
    (λ x y f. ap (λ z. a ∷ z) f ∙ ap (λ c. c ∷ y) e)))

symbols_from : (n m : ℕ) (i j : List Placed) (v w : List Placed × List Placed) → word_at i ≡ Some v → word_at j ≡ Some w → Like v.0 w.0 → length i ≤ n → length j ≤ m
    → ((n m : ℕ) → length v.1 ≤ n → length w.1 ≤ m → Same Equal (symbols_at n v.1) (symbols_at m w.1)) → Same Equal (symbols_at n i) (symbols_at m j)
symbols_from zero m i j v w e f l h k rest = absurd (let s = shorter i v e in omega arith)
symbols_from (suc n) zero i j v w e f l h k rest = absurd (let s = shorter j w f in omega arith)
symbols_from (suc n) (suc m) i j v w e f l h k rest =
    subst (λ (x : Option (List Placed × List Placed)). Same Equal (symbols_after (symbols_at n) x) (symbols_at (suc m) j)) (sym e)
    (subst (λ (y : Option (List Placed × List Placed)). Same Equal (symbols_after (symbols_at n) (Some v)) (symbols_after (symbols_at m) y)) (sym f)
    (symbols-next n m v w l (rest n m (let s = shorter i v e in omega arith) (let s = shorter j w f in omega arith))))

symbols : (i j : List Placed) → Alike i j → (n m : ℕ) → length i ≤ n → length j ≤ m → Same Equal (symbols_at n i) (symbols_at m j)
symbols i j (done _ _ e f) = λ n m h k. symbols_ends n m i j e f
symbols i j (word _ _ v w e f l s) = λ n m h k. symbols_from n m i j v w e f l h k (symbols v.1 w.1 s)

pub keys_says : (d e : Place) (i j : List Placed) → Alike i j → Same Says (keys_line d i) (keys_line e j)
unfolding keys_line
keys_says d e i j s =
    then With Says (code_at d i) (code_at e j) _ _ (coding d e i j s)
    (λ n m l. then Alike Says (keyword_at (codes "=") d n.1) (keyword_at (codes "=") e m.1) _ _ (keywords (codes "=") refl d e n.1 m.1 l.1)
    (λ r q t. then With Says (symbol_at d r) (symbol_at e q) _ _ (symbolic d e r q t)
    (λ a b k. then Equal Says (with_actions (a.0 ∷ []) (symbols_at (length a.1) a.1)) (with_actions (b.0 ∷ []) (symbols_at (length b.1) b.1)) _ _
    (then Equal Equal (symbols_at (length a.1) a.1) (symbols_at (length b.1) b.1) _ _ (symbols a.1 b.1 k.1 (length a.1) (length b.1) (omega arith) (omega arith))
    (λ x y f. ap (λ z. (a.0 ∷ []) ++ z) f ∙ ap (λ c. (c ∷ []) ++ y) k.0))
    (λ x y f. tells_same (keys n.0 x) (keys m.0 y) (ap (keys n.0) f ∙ ap (λ c. keys c y) l.0)))))

pub weights : (v w : List Placed) → IsKey v w → weight_of v ≡ weight_of w
unfolding weight_of
weights v w l =
    rw (l.keyword (codes "plain") refl, l.keyword (codes "shift") refl, l.keyword (codes "altgr") refl, l.keyword (codes "control") refl, l.keyword (codes "alt") refl, l.keyword (codes "shiftl") refl, l.keyword (codes "shiftr") refl, l.keyword (codes "ctrll") refl, l.keyword (codes "ctrlr") refl) refl

-- modifier words up to `keycode`
modifiers-by : (n m table : ℕ) (d e : Place) (v w : List Placed × List Placed) (x y : Option ℕ) → x ≡ y → Words v w
    → ((more : ℕ) → Same With (modifiers_at n more d v.1) (modifiers_at m more e w.1))
    → Same With (modifiers_by (λ more left. modifiers_at n more d left) table v x) (modifiers_by (λ more left. modifiers_at m more e left) table w y)
modifiers-by n m table d e v w x y same l rest =
    subst (λ (z : Option ℕ). Same With (modifiers_by (λ more left. modifiers_at n more d left) table v x) (modifiers_by (λ more left. modifiers_at m more e left) table w z)) same (at x)
  where
    at : (x : Option ℕ) → Same With (modifiers_by (λ more left. modifiers_at n more d left) table v x) (modifiers_by (λ more left. modifiers_at m more e left) table w x)
    at (Some weight) = rest (bit_or table weight)
    at None = pick With (is_word (codes "keycode") v.0) (is_word (codes "keycode") w.0) (Ok (table, v.1)) (Err (fault UNKNOWN_WORD (place_of_word v.0))) (Ok (table, w.1)) (Err (fault UNKNOWN_WORD (place_of_word w.0))) ((l.0).keyword (codes "keycode") refl) (refl, l.1) refl

next_none : (kind : ℕ) (d : Place) (i : List Placed) → word_at i ≡ None → next kind d i ≡ Err (fault kind d)
unfolding next
next_none kind d i e = ap (required_word kind d) e

next_some : (kind : ℕ) (d : Place) (i : List Placed) (v : List Placed × List Placed) → word_at i ≡ Some v → next kind d i ≡ whole v
unfolding next
next_some kind d i v e = ap (required_word kind d) e

modifiers_none : (n m table : ℕ) (d e : Place) (i j : List Placed) → word_at i ≡ None → word_at j ≡ None → length i < n → length j < m → Same With (modifiers_at n table d i) (modifiers_at m table e j)
modifiers_none zero m table d e i j h k n_some m_some = absurd (omega arith)
modifiers_none (suc n) zero table d e i j h k n_some m_some = absurd (omega arith)
modifiers_none (suc n) (suc m) table d e i j h k n_some m_some =
    subst (λ (x : Result (List Placed × List Placed) KeyFault). Same With (x >>= λ u. modifiers_by (λ more left. modifiers_at n more d left) table u (weight_of u.0)) (modifiers_at (suc m) table e j)) (sym (next_none UNKNOWN_WORD d i h))
    (subst (λ (y : Result (List Placed × List Placed) KeyFault). Same {X = ℕ × List Placed} {Y = ℕ × List Placed} With (Err (fault UNKNOWN_WORD d)) (y >>= λ u. modifiers_by (λ more left. modifiers_at m more e left) table u (weight_of u.0))) (sym (next_none UNKNOWN_WORD e j k)) refl)

modifiers_from : (n m table : ℕ) (d e : Place) (i j : List Placed) (v w : List Placed × List Placed) → word_at i ≡ Some v → word_at j ≡ Some w → Words v w → length i < n → length j < m
    → ((n m more : ℕ) → length v.1 < n → length w.1 < m → Same With (modifiers_at n more d v.1) (modifiers_at m more e w.1)) → Same With (modifiers_at n table d i) (modifiers_at m table e j)
modifiers_from zero m table d e i j v w h k l n_some m_some rest = absurd (omega arith)
modifiers_from (suc n) zero table d e i j v w h k l n_some m_some rest = absurd (omega arith)
modifiers_from (suc n) (suc m) table d e i j v w h k l n_some m_some rest =
    subst (λ (x : Result (List Placed × List Placed) KeyFault). Same With (x >>= λ u. modifiers_by (λ more left. modifiers_at n more d left) table u (weight_of u.0)) (modifiers_at (suc m) table e j)) (sym (next_some UNKNOWN_WORD d i v h))
    (subst (λ (y : Result (List Placed × List Placed) KeyFault). Same With (whole v >>= λ u. modifiers_by (λ more left. modifiers_at n more d left) table u (weight_of u.0)) (y >>= λ u. modifiers_by (λ more left. modifiers_at m more e left) table u (weight_of u.0))) (sym (next_some UNKNOWN_WORD e j w k))
    (whole-then With v w (λ u. modifiers_by (λ more left. modifiers_at n more d left) table u (weight_of u.0)) (λ u. modifiers_by (λ more left. modifiers_at m more e left) table u (weight_of u.0)) (like_key v.0 w.0 l.0)
    (modifiers-by n m table d e v w (weight_of v.0) (weight_of w.0) (weights v.0 w.0 (like_key v.0 w.0 l.0)) l
    (λ more. rest n m more (let s = shorter i v h in omega arith) (let s = shorter j w k in omega arith)))))

modifiers : (d e : Place) (i j : List Placed) → Alike i j → (n m table : ℕ) → length i < n → length j < m → Same With (modifiers_at n table d i) (modifiers_at m table e j)
modifiers d e i j (done _ _ h k) = λ n m table p q. modifiers_none n m table d e i j h k p q
modifiers d e i j (word _ _ v w h k l s) = λ n m table p q. modifiers_from n m table d e i j v w h k (l, s) p q (modifiers d e v.1 w.1 s)

pub modified_says : (weight : ℕ) (d e : Place) (i j : List Placed) → Alike i j → Same Says (modified_line weight d i) (modified_line weight e j)
unfolding modified_line
modified_says weight d e i j s =
    then With Says (modifiers_at (length i + 1) weight d i) (modifiers_at (length j + 1) weight e j) _ _ (modifiers d e i j s (length i + 1) (length j + 1) weight (omega arith) (omega arith))
    (λ t u x. then With Says (code_at d t.1) (code_at e u.1) _ _ (coding d e t.1 u.1 x.1)
    (λ n m l. then Alike Says (keyword_at (codes "=") d n.1) (keyword_at (codes "=") e m.1) _ _ (keywords (codes "=") refl d e n.1 m.1 l.1)
    (λ r q y. then With Says (symbol_at d r) (symbol_at e q) _ _ (symbolic d e r q y)
    (λ a b k. then Equal Says (end_of_line a.1) (end_of_line b.1) _ _ (ending a.1 b.1 k.1)
    (λ _ _ _. tells_same (one t.0 n.0 a.0) (one u.0 m.0 b.0) (ap (λ z. one z n.0 a.0) x.0 ∙ ap (λ z. one u.0 z a.0) l.0 ∙ ap (one u.0 m.0) k.0))))))

pub string_says : (d e : Place) (i j : List Placed) → Alike i j → Same Says (string_line d i) (string_line e j)
unfolding string_line
string_says d e i j s =
    then With Says (function_at d i) (function_at e j) _ _ (functions d e i j s)
    (λ n m l. then Alike Says (keyword_at (codes "=") d n.1) (keyword_at (codes "=") e m.1) _ _ (keywords (codes "=") refl d e n.1 m.1 l.1)
    (λ r q y. then With Says (string_at d r) (string_at e q) _ _ (strings d e r q y)
    (λ a b k. then Equal Says (end_of_line a.1) (end_of_line b.1) _ _ (ending a.1 b.1 k.1)
    (λ _ _ _. tells_same (string n.0 a.0) (string m.0 b.0) (ap (λ z. string z a.0) l.0 ∙ ap (string m.0) k.0)))))

pub pair_says : (d e : Place) (i j : List Placed) → Alike i j → Same Says (pair_line d i) (pair_line e j)
unfolding pair_line
pair_says d e i j s =
    then With Says (character_at d i) (character_at e j) _ _ (characters d e i j s)
    (λ a a' k. then With Says (character_at d a.1) (character_at e a'.1) _ _ (characters d e a.1 a'.1 k.1)
    (λ b b' l. then Alike Says (keyword_at (codes "to") d b.1) (keyword_at (codes "to") e b'.1) _ _ (keywords (codes "to") refl d e b.1 b'.1 l.1)
    (λ r q y. then With Says (character_at d r) (character_at e q) _ _ (characters d e r q y)
    (λ c c' m. then Equal Says (end_of_line c.1) (end_of_line c'.1) _ _ (ending c.1 c'.1 m.1)
    (λ _ _ _. tells_same (compose (pair_of a.0 b.0 c.0)) (compose (pair_of a'.0 b'.0 c'.0))
    (ap (λ z. compose (pair_of z b.0 c.0)) k.0 ∙ ap (λ z. compose (pair_of a'.0 z c.0)) l.0 ∙ ap (λ z. compose (pair_of a'.0 b'.0 z)) m.0))))))

is-next-by : (text : List ℕ) → IsTrue (begins_key text) → (x y : Option (List Placed × List Placed)) → Nexts x y → is_next_by text x ≡ is_next_by text y
is-next-by text key None None l = refl
is-next-by text key None (Some w) l = absurd l
is-next-by text key (Some v) None l = absurd l
is-next-by text key (Some v) (Some w) l = (l.0).keyword text key

is-next : (text : List ℕ) → IsTrue (begins_key text) → (i j : List Placed) → Alike i j → is_next text i ≡ is_next text j
unfolding is_next
is-next text key i j s = is-next-by text key (word_at i) (word_at j) (nexts i j s)

charsets : (d e : Place) (i j : List Placed) → Alike i j → Same Alike (after_charset d i) (after_charset e j)
unfolding after_charset
charsets d e i j s =
    pick Alike (is_next (codes "for") i) (is_next (codes "for") j)
    (keyword_at (codes "for") d i >>= λ rest. text_at d rest >>= λ name. Ok name.2) (Ok i)
    (keyword_at (codes "for") e j >>= λ rest. text_at e rest >>= λ name. Ok name.2) (Ok j)
    (is-next (codes "for") refl i j s)
    (then Alike Alike (keyword_at (codes "for") d i) (keyword_at (codes "for") e j) _ _ (keywords (codes "for") refl d e i j s)
    (λ r q t. then Texts Alike (text_at d r) (text_at e q) _ _ (texts d e r q t) (λ x y l. l.1)))
    s

pub usual_pairs_says : (d e : Place) (i j : List Placed) → Alike i j → Same Says (usual_pairs_line d i) (usual_pairs_line e j)
unfolding usual_pairs_line
usual_pairs_says d e i j s =
    then Alike Says (keyword_at (codes "as") d i) (keyword_at (codes "as") e j) _ _ (keywords (codes "as") refl d e i j s)
    (λ r q t. then Alike Says (keyword_at (codes "usual") d r) (keyword_at (codes "usual") e q) _ _ (keywords (codes "usual") refl d e r q t)
    (λ x y k. then Alike Says (after_charset d x) (after_charset e y) _ _ (charsets d e x y k)
    (λ z u l. then Equal Says (end_of_line z) (end_of_line u) _ _ (ending z u l) (λ _ _ _. a_line usual_pairs))))

pub compose_says : (d e : Place) (i j : List Placed) → Alike i j → Same Says (compose_line d i) (compose_line e j)
unfolding compose_line
compose_says d e i j s =
    pick Says (is_next (codes "as") i) (is_next (codes "as") j) (usual_pairs_line d i) (pair_line d i) (usual_pairs_line e j) (pair_line e j)
    (is-next (codes "as") refl i j s) (usual_pairs_says d e i j s) (pair_says d e i j s)

pub usual_strings_says : (d e : Place) (i j : List Placed) → Alike i j → Same Says (usual_strings_line d i) (usual_strings_line e j)
unfolding usual_strings_line
usual_strings_says d e i j s =
    then Alike Says (keyword_at (codes "as") d i) (keyword_at (codes "as") e j) _ _ (keywords (codes "as") refl d e i j s)
    (λ r q t. then Alike Says (keyword_at (codes "usual") d r) (keyword_at (codes "usual") e q) _ _ (keywords (codes "usual") refl d e r q t)
    (λ z u l. then Equal Says (end_of_line z) (end_of_line u) _ _ (ending z u l) (λ _ _ _. a_line usual_strings)))

pub alt_is_meta_says : (i j : List Placed) → Alike i j → Same Says (alt_is_meta_line i) (alt_is_meta_line j)
unfolding alt_is_meta_line
alt_is_meta_says i j s = then Equal Says (end_of_line i) (end_of_line j) _ _ (ending i j s) (λ _ _ _. a_line alt_is_meta)

bad_ends : (x y : Result (Unit {0}) KeyFault) → Same Equal x y → Faults (result_err x) (result_err y)
bad_ends (Ok x) (Ok y) h = tt
bad_ends (Ok x) (Err g) h = absurd h
bad_ends (Err f) (Ok y) h = absurd h
bad_ends (Err f) (Err g) h = h

pub include_says : (d e : Place) (i j : List Placed) → Alike i j → Same Says (include_line d i) (include_line e j)
unfolding include_line
include_says d e i j s =
    then Texts Says (text_at d i) (text_at e j) _ _ (texts d e i j s)
    (λ x y l. includes_same x.0 y.0 x.1 y.1 (result_err (end_of_line x.2)) (result_err (end_of_line y.2)) l.0 (bad_ends (end_of_line x.2) (end_of_line y.2) (ending x.2 y.2 l.1)))

pub charset_says : (d e : Place) (i j : List Placed) → Alike i j → Same Says (charset_line d i) (charset_line e j)
unfolding charset_line
charset_says d e i j s =
    then Texts Says (text_at d i) (text_at e j) _ _ (texts d e i j s)
    (λ x y l. then Equal Says (end_of_line x.2) (end_of_line y.2) _ _ (ending x.2 y.2 l.1) (λ _ _ _. no_line))

-- a row by its first word, whose case is nothing
abbrev pub Keys : List Placed × List Placed → List Placed × List Placed → Type 0
Keys v w = IsKey v.0 w.0 × Alike v.1 w.1

modifieds : (d e : Place) (v w : List Placed × List Placed) → Keys v w → (x : Option ℕ) → Same Says (modified_by d v x) (modified_by e w x)
modifieds d e v w l None = refl
modifieds d e v w l (Some weight) = modified_says weight d e v.1 w.1 l.1

modified-by : (d e : Place) (v w : List Placed × List Placed) → Keys v w → (x y : Option ℕ) → x ≡ y → Same Says (modified_by d v x) (modified_by e w y)
modified-by d e v w l x y same = subst (λ (z : Option ℕ). Same Says (modified_by d v x) (modified_by e w z)) same (modifieds d e v w l x)

pub line_says : (d e : Place) (v w : List Placed × List Placed) → Keys v w → Same Says (line_by d v) (line_by e w)
unfolding line_by
line_says d e v w l =
    let key = (l.0).keyword in
    pick Says (is_word (codes "keymaps") v.0) (is_word (codes "keymaps") w.0) _ _ _ _ (key (codes "keymaps") refl) (keymaps_says d e v.1 w.1 l.1)
    (pick Says (is_word (codes "keycode") v.0) (is_word (codes "keycode") w.0) _ _ _ _ (key (codes "keycode") refl) (keys_says d e v.1 w.1 l.1)
    (pick Says (is_word (codes "string") v.0) (is_word (codes "string") w.0) _ _ _ _ (key (codes "string") refl) (string_says d e v.1 w.1 l.1)
    (pick Says (is_word (codes "compose") v.0) (is_word (codes "compose") w.0) _ _ _ _ (key (codes "compose") refl) (compose_says d e v.1 w.1 l.1)
    (pick Says (is_word (codes "include") v.0) (is_word (codes "include") w.0) _ _ _ _ (key (codes "include") refl) (include_says d e v.1 w.1 l.1)
    (pick Says (is_word (codes "charset") v.0) (is_word (codes "charset") w.0) _ _ _ _ (key (codes "charset") refl) (charset_says d e v.1 w.1 l.1)
    (pick Says (is_word (codes "alt_is_meta") v.0) (is_word (codes "alt_is_meta") w.0) _ _ _ _ (key (codes "alt_is_meta") refl) (alt_is_meta_says v.1 w.1 l.1)
    (pick Says (is_word (codes "strings") v.0) (is_word (codes "strings") w.0) _ _ _ _ (key (codes "strings") refl) (usual_strings_says d e v.1 w.1 l.1)
    (modified-by d e v w l (weight_of v.0) (weight_of w.0) (weights v.0 w.0 l.0)))))))))

pub row_says : (d e : Place) (v w : List Placed × List Placed) → Keys v w → Same Says (statement_from d v) (statement_from e w)
unfolding statement_from
row_says d e v w l = whole-then Says v w (line_by d) (line_by e) l.0 (line_says d e v w l)
