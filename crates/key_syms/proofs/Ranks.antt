-- Tests of a table and of the order of its names, and their consequences, for any table.
use Rattle.std.proofs.Common.{◌≡◌, ◌≢◌, ℕ, zero, suc, ◌+◌, ◌-◌, ◌<◌, ◌≤◌, Bool, true, false, ◌&&◌, ◌||◌, eqb, leb, List, [], ◌∷◌, length, get_or, take, drop, refl, ap, ◌∙◌, subst, inl, inr, arith}
use Rattle.std.proofs.lemmas.List.{drop-drop}
use Rattle.std.proofs.lemmas.Bool.{and_parts, false≢true, leb-true}
use Rattle.std.proofs.lemmas.Bool.Decides.{eqb_tells}
use Rattle.std.proofs.lemmas.Cmp.{nat_list_cmp_total}
use Rattle.std.proofs.lemmas.Slice.Eq.{bytes_eq-Decides}
use Rattle.std.specs.Ordering.{nat_cmp, is_lt}
use Rattle.std.specs.declared.cmp.Ordering.{Ordering}
use Rattle.std.specs.declared.cmp.Ordering.TheVariants.{Less, Equal, Greater}
use Rattle.std.specs.Cmp.Lexicographic.{slice_cmp}
use Rattle.std.specs.List.{list_any}
use Rattle.std.specs.Str.{bytes_eq}
use Rattle.key_syms.specs.declared.table.TheConstants.{NAMES_SIZE}

-- the names lie at these places of the text: `text` is what follows the first `from` bytes
abbrev pub lie_at : List (List ℕ) → List ℕ → List ℕ → ℕ → List ℕ → Bool
lie_at [] starts lengths from text = true
lie_at (name ∷ names) [] lengths from text = false
lie_at (name ∷ names) (s ∷ starts) [] from text = false
lie_at (name ∷ names) (s ∷ starts) (l ∷ lengths) from text =
    leb from s && (leb (s + l) NAMES_SIZE && (bytes_eq (take l (drop (s - from) text)) name
    && lie_at names starts lengths s (drop (s - from) text)))

-- each text comes after the one before it
abbrev pub rises_from : List ℕ → List (List ℕ) → Bool
rises_from x [] = true
rises_from x (y ∷ ys) = is_lt (slice_cmp nat_cmp x y) && rises_from y ys

abbrev pub rises : List (List ℕ) → Bool
rises [] = true
rises (x ∷ xs) = rises_from x xs

-- each number from a first one on is among the items
abbrev pub counts_among : ℕ → ℕ → List ℕ → Bool
counts_among from zero items = true
counts_among from (suc n) items = list_any (λ p. eqb p from) items && counts_among (suc from) n items

drop_further : (s from : ℕ) (xs : List ℕ) → from ≤ s → drop (s - from) (drop from xs) ≡ drop s xs
drop_further s from xs h = drop-drop (s - from) from xs ∙ ap (λ n. drop n xs) (omega arith)

-- where a name lies, and that it ends within the text
pub record LiesAt (text name : List ℕ) (start len : ℕ) : Type 0 where
  pub spells : take len (drop start text) ≡ name
  pub within : start + len ≤ NAMES_SIZE

shorter : (k n : ℕ) → suc k < suc n → k < n
shorter k n h = omega arith

pub lie_at_each : (names : List (List ℕ)) (starts lengths : List ℕ) (from : ℕ) (text : List ℕ) → lie_at names starts lengths from (drop from text) ≡ true → (k : ℕ) → k < length names → LiesAt text (get_or names k []) (get_or starts k 0) (get_or lengths k 0)
lie_at_each [] starts lengths from text e k h = absurd (omega arith)
lie_at_each (name ∷ names) [] lengths from text e k h = absurd (false≢true e)
lie_at_each (name ∷ names) (s ∷ starts) [] from text e k h = absurd (false≢true e)
lie_at_each (name ∷ names) (s ∷ starts) (l ∷ lengths) from text e zero h =
    let first = and_parts _ _ e in
    let second = and_parts _ _ first.1 in
    let third = and_parts _ _ second.1 in
    let le : from ≤ s = leb-true _ _ first.0 in
    record {
      spells = subst (λ (t : List ℕ). take l t ≡ name) (drop_further s from text le) ((bytes_eq-Decides _ _).0 third.0);
      within = leb-true _ _ second.0;
    }
lie_at_each (name ∷ names) (s ∷ starts) (l ∷ lengths) from text e (suc k) h =
    let first = and_parts _ _ e in
    let second = and_parts _ _ first.1 in
    let third = and_parts _ _ second.1 in
    let le : from ≤ s = leb-true _ _ first.0 in
    lie_at_each names starts lengths s text
    (subst (λ (t : List ℕ). lie_at names starts lengths s t ≡ true) (drop_further s from text le) third.1) k (shorter k (length names) h)

is_lt-Less : (o : Ordering) → is_lt o ≡ true → o ≡ Less
is_lt-Less Less e = refl
is_lt-Less Equal e = absurd (false≢true e)
is_lt-Less Greater e = absurd (false≢true e)

abbrev pub IsBefore : List ℕ → List ℕ → Type 0
IsBefore x y = slice_cmp nat_cmp x y ≡ Less

rises_from_each : (x : List ℕ) (ys : List (List ℕ)) → rises_from x ys ≡ true → (k : ℕ) → k < length ys → IsBefore x (get_or ys k [])
rises_from_each x [] e k h = absurd (omega arith)
rises_from_each x (y ∷ ys) e zero h = is_lt-Less _ (and_parts _ _ e).0
rises_from_each x (y ∷ ys) e (suc k) h =
    nat_list_cmp_total.trans x y (get_or ys k []) (is_lt-Less _ (and_parts _ _ e).0)
    (rises_from_each y ys (and_parts _ _ e).1 k (omega arith))

rises_from-rises : (x : List ℕ) (ys : List (List ℕ)) → rises_from x ys ≡ true → rises ys ≡ true
rises_from-rises x [] e = refl
rises_from-rises x (y ∷ ys) e = (and_parts _ _ e).1

pub rises_each : (xs : List (List ℕ)) → rises xs ≡ true → (i j : ℕ) → i < j → j < length xs → IsBefore (get_or xs i []) (get_or xs j [])
rises_each [] e i j h k = absurd (omega arith)
rises_each (x ∷ xs) e i zero h k = absurd (omega arith)
rises_each (x ∷ xs) e zero (suc j) h k = rises_from_each x xs e j (omega arith)
rises_each (x ∷ xs) e (suc i) (suc j) h k = rises_each xs (rises_from-rises x xs e) i j (omega arith) (omega arith)

pub among_rank : (j : ℕ) (items : List ℕ) → list_any (λ p. eqb p j) items ≡ true → (r : ℕ) × (r < length items) × (get_or items r 0 ≡ j)
among_rank j [] e = absurd (false≢true e)
among_rank j (p ∷ items) e = elim (eqb_tells p j) [
  | inl h ↦ (0, omega arith, h.1)
  | inr h ↦ let rest = among_rank j items (subst (λ (b : Bool). (b || list_any (λ q. eqb q j) items) ≡ true) h.0 e) in (suc rest.0, omega arith, rest.2)
]

pub counts_among_rank : (n from : ℕ) (items : List ℕ) → counts_among from n items ≡ true → (j : ℕ) → from ≤ j → j < from + n → (r : ℕ) × (r < length items) × (get_or items r 0 ≡ j)
counts_among_rank zero from items e j h k = absurd (omega arith)
counts_among_rank (suc n) from items e j h k = elim (eqb_tells from j) [
  | inl q ↦ among_rank j items (subst (λ (i : ℕ). list_any (λ p. eqb p i) items ≡ true) q.1 (and_parts _ _ e).0)
  | inr q ↦ counts_among_rank n (suc from) items (and_parts _ _ e).1 j (let ne : from ≢ j = q.1 in omega arith) (omega arith)
]
