-- The items at a place of a line are read alike in rows of words that are read alike.
use Rattle.std.proofs.Common.{◌≡◌, ℕ, ◌==◌, cond, nat_le, ◌&&◌, IsTrue, Option, Some, None, Ok, Err, List, length, refl, ap, subst}
use Rattle.key_syms.specs.Act.{Act, is_character}
use Rattle.key_syms.specs.Kinds.{CHARACTER, FUNCTION}
use Rattle.key_syms.specs.Names.{symbol}
use Rattle.key_syms.specs.Numbers.{number_of}
use Rattle.key_text.proofs.for_laws.Like.{Alike, Like, Nexts, Words, begins_key, nexts, taking, wholes}
use Rattle.key_text.proofs.for_laws.Same.{Same, pick, then}
use Rattle.key_text.specs.Fault.{fault}
use Rattle.key_text.specs.FaultKinds.{BAD_TEXT, LONG_STRING, OUT_OF_RANGE, UNKNOWN_SYMBOL, UNKNOWN_WORD, WRONG_COUNT, LEFT_OVER}
use Rattle.key_text.specs.Fields.{action_of, character_at, character_by, character_in, code_at, end_of_line, ended_by, function_at, function_by, good, is_quoted, keyword_at, symbol_action, named_character, number_in_range, real, string_at, symbol_at, text_at}
use Rattle.key_text.specs.Quoted.{character_of, text_of}
use Rattle.key_text.specs.Words.{bytes, is_word, next, place_of_word, whole, word_at}
use Rattle.key_text.specs.declared.placed.Place.{Place}
use Rattle.key_text.specs.declared.placed.Placed.{Placed}

abbrev pub Equal : {X : Type 0} → X → X → Type 0
Equal x y = x ≡ y

-- the same value, and rows that are read alike
abbrev pub With : {X : Type 0} → X × List Placed → X × List Placed → Type 0
With p q = (p.0 ≡ q.0) × Alike p.1 q.1

endeds : (x y : Option (List Placed × List Placed)) → Nexts x y → Same {X = Unit {0}} Equal (ended_by x) (ended_by y)
endeds None None l = refl
endeds None (Some w) l = absurd l
endeds (Some v) None l = absurd l
endeds (Some v) (Some w) l =
    then Words Equal (whole v) (whole w) (λ u. Err (fault LEFT_OVER (place_of_word u.0))) (λ u. Err (fault LEFT_OVER (place_of_word u.0)))
    (wholes v w l) (λ u t k. refl)

pub ending : (i j : List Placed) → Alike i j → Same Equal (end_of_line i) (end_of_line j)
unfolding end_of_line
ending i j s = endeds (word_at i) (word_at j) (nexts i j s)

pub keywords : (text : List ℕ) → IsTrue (begins_key text) → (d e : Place) (i j : List Placed) → Alike i j → Same Alike (keyword_at text d i) (keyword_at text e j)
unfolding keyword_at
keywords text key d e i j s =
    then Words Alike (next UNKNOWN_WORD d i) (next UNKNOWN_WORD e j) _ _ (taking UNKNOWN_WORD d e i j s)
    (λ v w l. pick Alike (is_word text v.0) (is_word text w.0) (Ok v.1) (Err (fault UNKNOWN_WORD (place_of_word v.0))) (Ok w.1) (Err (fault UNKNOWN_WORD (place_of_word w.0))) ((l.0).keyword text key) l.1 refl)

rangeds_at : (low high : ℕ) (v w : List Placed) (n : Option ℕ) → Same Equal (number_in_range low high v n) (number_in_range low high w n)
rangeds_at low high v w None = refl
rangeds_at low high v w (Some n) =
    pick Equal (nat_le low n && nat_le n high) (nat_le low n && nat_le n high) (Ok n) (Err (fault OUT_OF_RANGE (place_of_word v))) (Ok n) (Err (fault OUT_OF_RANGE (place_of_word w))) refl refl refl

pub rangeds : (low high : ℕ) (v w : List Placed) (n m : Option ℕ) → n ≡ m → Same Equal (number_in_range low high v n) (number_in_range low high w m)
rangeds low high v w n m e = subst (λ (x : Option ℕ). Same Equal (number_in_range low high v n) (number_in_range low high w x)) e (rangeds_at low high v w n)

pub coding : (d e : Place) (i j : List Placed) → Alike i j → Same With (code_at d i) (code_at e j)
unfolding code_at
coding d e i j s =
    then Words With (next UNKNOWN_WORD d i) (next UNKNOWN_WORD e j) _ _ (taking UNKNOWN_WORD d e i j s)
    (λ v w l. then Equal With (number_in_range 1 255 v.0 (number_of (bytes v.0))) (number_in_range 1 255 w.0 (number_of (bytes w.0))) _ _
    (rangeds 1 255 v.0 w.0 (number_of (bytes v.0)) (number_of (bytes w.0)) (l.0).number)
    (λ n m e. (e, l.1)))

knowns_at : (v w : List Placed) (a : Option Act) → Same Equal (symbol_action v a) (symbol_action w a)
knowns_at v w None = refl
knowns_at v w (Some a) = refl

pub actions : (v w : List Placed) → Like v w → Same Equal (action_of v) (action_of w)
actions v w l = subst (λ (x : Option Act). Same Equal (symbol_action v (symbol (bytes v))) (symbol_action w x)) l.symbol (knowns_at v w (symbol (bytes v)))

pub symbolic : (d e : Place) (i j : List Placed) → Alike i j → Same With (symbol_at d i) (symbol_at e j)
unfolding symbol_at
symbolic d e i j s =
    then Words With (next WRONG_COUNT d i) (next WRONG_COUNT e j) _ _ (taking WRONG_COUNT d e i j s)
    (λ v w l. then Equal With (action_of v.0) (action_of w.0) _ _ (actions v.0 w.0 l.0) (λ a b e. (e, l.1)))

function_bys : (v w : List Placed) (a b : Act) → a ≡ b → Same Equal (function_by v a) (function_by w b)
function_bys v w a b e =
    pick Equal (a.kind == FUNCTION) (b.kind == FUNCTION) (Ok a.value) (Err (fault UNKNOWN_SYMBOL (place_of_word v))) (Ok b.value) (Err (fault UNKNOWN_SYMBOL (place_of_word w)))
    (ap (λ (c : Act). c.kind == FUNCTION) e) (ap (λ (c : Act). c.value) e) refl

pub functions : (d e : Place) (i j : List Placed) → Alike i j → Same With (function_at d i) (function_at e j)
unfolding function_at
functions d e i j s =
    then Words With (next UNKNOWN_SYMBOL d i) (next UNKNOWN_SYMBOL e j) _ _ (taking UNKNOWN_SYMBOL d e i j s)
    (λ v w l. then Equal With (action_of v.0) (action_of w.0) _ _ (actions v.0 w.0 l.0)
    (λ a b e. then Equal With (function_by v.0 a) (function_by w.0 b) _ _ (function_bys v.0 w.0 a b e) (λ n m f. (f, l.1))))

goods_at : {X : Type 0} (v w : List Placed) (x : Option X) → Same Equal (good v x) (good w x)
goods_at v w None = refl
goods_at v w (Some x) = refl

goods : {X : Type 0} (v w : List Placed) (x y : Option X) → x ≡ y → Same Equal (good v x) (good w y)
goods {X} v w x y e = subst (λ (z : Option X). Same Equal (good v x) (good w z)) e (goods_at v w x)

-- a text, its place, and rows that are read alike
abbrev pub Texts : List ℕ × Place × List Placed → List ℕ × Place × List Placed → Type 0
Texts p q = (p.0 ≡ q.0) × Alike p.2 q.2

pub texts : (d e : Place) (i j : List Placed) → Alike i j → Same Texts (text_at d i) (text_at e j)
unfolding text_at
texts d e i j s =
    then Words Texts (next BAD_TEXT d i) (next BAD_TEXT e j) _ _ (taking BAD_TEXT d e i j s)
    (λ v w l. then Equal Texts (good v.0 (text_of v.0)) (good w.0 (text_of w.0)) _ _ (goods v.0 w.0 (text_of v.0) (text_of w.0) (l.0).text)
    (λ t u e. (e, l.1)))

pub strings : (d e : Place) (i j : List Placed) → Alike i j → Same With (string_at d i) (string_at e j)
unfolding string_at
strings d e i j s =
    then Texts With (text_at d i) (text_at e j) _ _ (texts d e i j s)
    (λ p q l. pick With (nat_le (length p.0) 255) (nat_le (length q.0) 255) (Ok (p.0, p.2)) (Err (fault LONG_STRING p.1)) (Ok (q.0, q.2)) (Err (fault LONG_STRING q.1))
    (ap (λ (t : List ℕ). nat_le (length t) 255) l.0) l refl)

character_bys : (v w : List Placed) (a b : Act) → a ≡ b → Same Equal (character_by v a) (character_by w b)
character_bys v w a b e =
    pick Equal (a.kind == CHARACTER) (b.kind == CHARACTER) (Ok a.value) (Err (fault UNKNOWN_SYMBOL (place_of_word v))) (Ok b.value) (Err (fault UNKNOWN_SYMBOL (place_of_word w)))
    (ap (λ (c : Act). c.kind == CHARACTER) e) (ap (λ (c : Act). c.value) e) refl

reals : (v w : List Placed) (n m : ℕ) → n ≡ m → Same Equal (real v n) (real w m)
reals v w n m e =
    pick Equal (is_character n) (is_character m) (Ok n) (Err (fault UNKNOWN_SYMBOL (place_of_word v))) (Ok m) (Err (fault UNKNOWN_SYMBOL (place_of_word w)))
    (ap is_character e) e refl

named : (v w : List Placed) → Like v w → Same Equal (named_character v) (named_character w)
named v w l = then Equal Equal (action_of v) (action_of w) _ _ (actions v w l) (λ a b e. character_bys v w a b e)

pub characters_in : (v w : List Placed) → Like v w → Same Equal (character_in v) (character_in w)
unfolding character_in
characters_in v w l =
    then Equal Equal
    (cond (is_quoted v) (good v (character_of v)) (named_character v))
    (cond (is_quoted w) (good w (character_of w)) (named_character w)) _ _
    (pick Equal (is_quoted v) (is_quoted w) (good v (character_of v)) (named_character v) (good w (character_of w)) (named_character w)
    l.quoted (goods v w (character_of v) (character_of w) l.character) (named v w l))
    (λ n m e. reals v w n m e)

pub characters : (d e : Place) (i j : List Placed) → Alike i j → Same With (character_at d i) (character_at e j)
unfolding character_at
characters d e i j s =
    then Words With (next UNKNOWN_SYMBOL d i) (next UNKNOWN_SYMBOL e j) _ _ (taking UNKNOWN_SYMBOL d e i j s)
    (λ v w l. then Equal With (character_in v.0) (character_in w.0) _ _ (characters_in v.0 w.0 l.0) (λ n m f. (f, l.1)))
