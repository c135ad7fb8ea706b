-- Checks of a TOML table, one after another: the value if it passes them all, or the first fault. This
-- project's own.
use Rattle.std.specs.Prelude.{◌≡◌, ℕ, ◌+◌, Bool, Result, Ok, Err, List, [], ◌∷◌, ⊤, if◌then◌else◌}
use Rattle.table_fields.specs.declared.fault.TableError.{TableError}
use Rattle.table_fields.specs.declared.fault.TableError.TheVariants as errors
use Rattle.table_fields.specs.declared.fault.TableFault.{TableFault}

-- a fault of a kind, in a part of the table and at an item of that part
abbrev pub fault : ℕ → ℕ → ℕ → TableFault
fault kind part item = record { kind = kind; part = part; item = item }

infixl 10 ◌>>=◌
abbrev pub ◌>>=◌ : {A B : Type 0} → Result A TableFault → (A → Result B TableFault) → Result B TableFault
(Ok x) >>= f = f x
(Err e) >>= f = Err e

-- a check that has no value
abbrev pub check : Bool → TableFault → Result ⊤ TableFault
check passes bad = if passes then Ok tt else Err bad

-- each item in order, counted from n, or the first fault
abbrev pub collect : {A B : Type 0} → (ℕ → A → Result B TableFault) → ℕ → List A → Result (List B) TableFault
collect f n [] = Ok []
collect f n (x ∷ xs) = do
  y ← f n x
  ys ← collect f (n + 1) xs
  Ok (y ∷ ys)

-- the value that a call returned is that of the checks by the relation, unless memory ran out
abbrev pub GivesBy : {X Y : Type 0} → (X → Y → Type 0) → Result X TableError → Result Y TableFault → Type 0
GivesBy {Y = Y} relation (Ok x) checked = (y : Y) × (checked ≡ Ok y) × relation x y
GivesBy relation (Err (errors.Fault f)) checked = checked ≡ Err f
GivesBy relation (Err errors.NoMemory) checked = ⊤

-- the value that a call returned, seen by `view`, is that of the checks, unless memory ran out
abbrev pub Gives : {X Y : Type 0} → (X → Y) → Result X TableError → Result Y TableFault → Type 0
Gives view (Ok x) checked = checked ≡ Ok (view x)
Gives view (Err (errors.Fault f)) checked = checked ≡ Err f
Gives view (Err errors.NoMemory) checked = ⊤

-- the value that a call that takes no memory returned, seen by `view`, is that of the checks
abbrev pub Returns : {X Y : Type 0} → (X → Y) → Result X TableFault → Result Y TableFault → Type 0
Returns view (Ok x) checked = checked ≡ Ok (view x)
Returns view (Err f) checked = checked ≡ Err f
