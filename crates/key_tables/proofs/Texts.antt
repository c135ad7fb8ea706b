-- A text that grows by the texts of items, one after another.
use Rattle.std.proofs.Common.{◌≡◌, ℕ, zero, suc, ◌+◌, ◌<◌, Bool, cond, Option, Some, None, is_some, List, [], ◌∷◌, ◌++◌, length, get_or, take, sym, ap, ◌∙◌, append_assoc, append-nil, arith}
use Rattle.std.specs.Option.{unwrap_or}
use Rattle.key_syms.specs.Act.{Act}
use Rattle.key_tables.specs.Listing.{entry_text, map_text, number_text, table_text, texts_from}

texts_from_more : {X : Type 0} (text : ℕ → X → List ℕ) (from : ℕ) (xs : List X) (i : ℕ) (d : X) → i < length xs → texts_from text from (take (suc i) xs) ≡ texts_from text from (take i xs) ++ text (from + i) (get_or xs i d)
texts_from_more text from [] i d h = absurd (omega arith)
texts_from_more text from (x ∷ xs) zero d h =
    append-nil (text from x) ∙ ap (λ n. text n x) (let e : from ≡ from + 0 = omega arith in e)
texts_from_more text from (x ∷ xs) (suc i) d h =
    ap (λ rest. text from x ++ rest) (texts_from_more text (suc from) xs i d (omega arith))
    ∙ sym (append_assoc (text from x) (texts_from text (suc from) (take i xs)) (text (suc from + i) (get_or xs i d)))
    ∙ ap (λ n. (text from x ++ texts_from text (suc from) (take i xs)) ++ text n (get_or xs i d)) (let e : suc from + i ≡ from + suc i = omega arith in e)

-- one more item
pub texts_more : {X : Type 0} (text : ℕ → X → List ℕ) (xs : List X) (i : ℕ) (x : X) (start before after : List ℕ) → i < length xs → x ≡ get_or xs i x → after ≡ before ++ text i x → before ≡ start ++ texts_from text 0 (take i xs) → after ≡ start ++ texts_from text 0 (take (i + 1) xs)
texts_more text xs i x start before after h e added so_far =
    added ∙ ap (λ b. b ++ text i x) so_far
    ∙ append_assoc start (texts_from text 0 (take i xs)) (text i x)
    ∙ ap (λ rest. start ++ rest)
    (ap (λ y. texts_from text 0 (take i xs) ++ text i y) e
    ∙ ap (λ n. texts_from text 0 (take i xs) ++ text n (get_or xs i x)) (let k : i ≡ 0 + i = omega arith in k)
    ∙ sym (texts_from_more text 0 xs i x h)
    ∙ ap (λ n. texts_from text 0 (take n xs)) (let k : suc i ≡ i + 1 = omega arith in k))

-- four texts, one behind another
pub four_more : (start a b c d w x y z : List ℕ) → a ≡ start ++ w → b ≡ a ++ x → c ≡ b ++ y → d ≡ c ++ z → d ≡ start ++ (w ++ (x ++ (y ++ z)))
four_more start a b c d w x y z p q r s =
    s ∙ ap (λ t. t ++ z) (r ∙ ap (λ t. t ++ y) (q ∙ ap (λ t. t ++ x) p)) ∙ simp append_assoc

-- the texts of a table, from what was read of it
pub table_told : (t : ℕ) (m : Option (List Act)) (exists : Bool) → exists ≡ is_some m → cond exists (number_text t) [] ≡ table_text t m
table_told t None exists e = ap (λ b. cond b (number_text t) []) e
table_told t (Some map) exists e = ap (λ b. cond b (number_text t) []) e

pub map_told : (t : ℕ) (m : Option (List Act)) (entries : List Act) → entries ≡ unwrap_or m [] → texts_from (entry_text t) 0 entries ≡ map_text t m
map_told t None entries e = ap (texts_from (entry_text t) 0) e
map_told t (Some map) entries e = ap (texts_from (entry_text t) 0) e
