-- The meaning of a part of a text: the value that is read there, or its first fault.
use Rattle.std.specs.Prelude.{◌≡◌, ℕ, ◌+◌, Result, Ok, Err, List, [], ◌∷◌, ⊤}
use Rattle.table_fields.specs.declared.fault.TableError.{TableError}
use Rattle.table_fields.specs.declared.fault.TableError.TheVariants as errors
use Rattle.table_fields.specs.declared.fault.TableFault.{TableFault}

-- the result is this one
abbrev pub is : {A : Type 0} → Result A TableFault → Result A TableFault → Type 0
is read said = said ≡ read

-- the next part is read after the value of this one; its fault is the fault of the whole
abbrev pub follows : {A B : Type 0} → (A → Result B TableFault → Type 0) → Result A TableFault → Result B TableFault → Type 0
follows more (Ok x) said = more x said
follows more (Err e) said = said ≡ Err e

infixl 10 ◌>>=◌
abbrev pub ◌>>=◌ : {A B : Type 0} → (Result A TableFault → Type 0) → (A → Result B TableFault → Type 0) → Result B TableFault → Type 0
(first >>= more) said = (read : _) × first read × follows more read said

-- each item of a list has its value, counted from n; otherwise the first fault is that of the list
abbrev pub each_says : {A B : Type 0} → (ℕ → A → Result B TableFault → Type 0) → ℕ → List A → Result (List B) TableFault → Type 0
each_says says n [] = is (Ok [])
each_says says n (x ∷ xs) = do
  y ← says n x
  ys ← each_says says (n + 1) xs
  is (Ok (y ∷ ys))

-- unless memory ran out, the result of a call is the meaning of the text, by this relation of values
abbrev pub ReadsBy : {X Y : Type 0} → (X → Y → Type 0) → Result X TableError → (Result Y TableFault → Type 0) → Type 0
ReadsBy {Y = Y} relation (Ok x) says = (y : Y) × says (Ok y) × relation x y
ReadsBy relation (Err (errors.Fault f)) says = says (Err f)
ReadsBy relation (Err errors.NoMemory) says = ⊤

-- unless memory ran out, the result of a call, seen by `view`, is the meaning of the text
abbrev pub Reads : {X Y : Type 0} → (X → Y) → Result X TableError → (Result Y TableFault → Type 0) → Type 0
Reads view (Ok x) says = says (Ok (view x))
Reads view (Err (errors.Fault f)) says = says (Err f)
Reads view (Err errors.NoMemory) says = ⊤
