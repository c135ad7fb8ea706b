-- The meaning of a list, item by item.
use Rattle.std.proofs.Common.{◌≡◌, ℕ, ◌+◌, ◌<◌, ◌≤◌, length, get_or, map, drop, subst, List, [], ◌∷◌, ◌++◌, Result, Ok, Err, refl, sym, ap}
use Rattle.std.proofs.lemmas.List.{append_assoc, append-nil, at_drop_more, drop_all}
use Rattle.table_fields.specs.Collecting.{found_before}
use Rattle.table_fields.specs.declared.fault.TableFault.{TableFault}
use Rattle.table_fields.specs.declared.fault.TableError.{TableError}
use Rattle.session_text.specs.Says.{Reads, each_says}
use Rattle.table_fields.specs.declared.fault.TableError.TheVariants as errors

-- the values of a list whose first one is known
each_more : {A B : Type 0} (says : ℕ → A → Result B TableFault → Type 0) (n : ℕ) (x : A) (xs : List A)
    (y : B) (said : Result (List B) TableFault) → says n x (Ok y) → each_says says (n + 1) xs said
    → each_says says n (x ∷ xs) (found_before (y ∷ []) said)
each_more says n x xs y (Ok ys) first others = (Ok y, first, (Ok ys, others, refl))
each_more says n x xs y (Err e) first others = (Ok y, first, (Err e, others, refl))

pub behind_more : {B : Type 0} (found : List B) (y : B) (said : Result (List B) TableFault)
    → found_before found (found_before (y ∷ []) said) ≡ found_before (found ++ y ∷ []) said
behind_more found y (Ok ys) = ap Ok (sym (append_assoc found (y ∷ []) ys))
behind_more found y (Err e) = refl

-- a fault of a part is a fault of the whole
pub reads_err : {X Y : Type 0} (e : TableError)
    (part : Result X TableFault → Type 0) (whole : Result Y TableFault → Type 0)
    → ((f : TableFault) → part (Err f) → whole (Err f))
    → Reads {X = X} (λ x. x) (Err e) part → Reads {X = Y} (λ y. y) (Err e) whole
reads_err (errors.Fault f) part whole step says = step f says
reads_err errors.NoMemory part whole step says = tt

-- the values that were found so far come before those of the rest of the list
abbrev pub SoFar : {X A B : Type 0} → (ℕ → A → Result B TableFault → Type 0) → (X → A) → List X → ℕ → List B → Type 0
SoFar {B = B} says g xs i found =
    (said : Result (List B) TableFault) → each_says says (i + 1) (map g (drop i xs)) said
    → each_says says 1 (map g xs) (found_before found said)

pub so_far_more : {X A B : Type 0} (says : ℕ → A → Result B TableFault → Type 0) (g : X → A) (xs : List X)
    (d : X) (i : ℕ) (found : List B) (y : B) → i < length xs
    → says (i + 1) (g (get_or xs i d)) (Ok y) → SoFar says g xs i found
    → SoFar says g xs (i + 1) (found ++ y ∷ [])
so_far_more says g xs d i found y within first so_far said rest =
    subst (each_says says 1 (map g xs)) (behind_more found y said)
    (so_far (found_before (y ∷ []) said)
    (subst (λ ys. each_says says (i + 1) ys (found_before (y ∷ []) said))
    (sym (at_drop_more (map g) xs i d within))
    (each_more says (i + 1) (g (get_or xs i d)) (map g (drop (i + 1) xs)) y said first rest)))

pub so_far_fault : {X A B : Type 0} (says : ℕ → A → Result B TableFault → Type 0) (g : X → A) (xs : List X)
    (d : X) (i : ℕ) (found : List B) (f : TableFault) → i < length xs
    → SoFar says g xs i found → says (i + 1) (g (get_or xs i d)) (Err f)
    → each_says {B = B} says 1 (map g xs) (Err f)
so_far_fault says g xs d i found f within so_far first =
    so_far (Err f)
    (subst (λ ys. each_says says (i + 1) ys (Err f)) (sym (at_drop_more (map g) xs i d within))
    (Err f, first, refl))

pub so_far_end : {X A B : Type 0} (says : ℕ → A → Result B TableFault → Type 0) (g : X → A) (xs : List X)
    (i : ℕ) (found : List B) → length xs ≤ i → SoFar says g xs i found
    → each_says says 1 (map g xs) (Ok found)
so_far_end says g xs i found end so_far =
    subst (λ ys. each_says says 1 (map g xs) (Ok ys)) (append-nil found)
    (so_far (Ok [])
    (subst (λ ys. each_says says (i + 1) ys (Ok [])) (sym (ap (map g) (drop_all i xs end))) refl))
