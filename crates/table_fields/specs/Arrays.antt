-- The arrays of a TOML table, each of values of one kind. This project's own.
use Rattle.std.specs.Prelude.{ℕ, Bool, false, Option, Some, None, Result, Ok, Err, List, [], ◌∷◌, length, ok_or}
use Rattle.toml.specs.Data.{Data, Items, no_items, item, as_array, as_bool}
use Rattle.table_fields.specs.Checked.{collect, fault}
use Rattle.table_fields.specs.FaultCodes.{WRONG_KIND}
use Rattle.table_fields.specs.declared.fault.TableFault.{TableFault}

-- the values of an array in order
abbrev pub values_of : Items → List Data
values_of no_items = []
values_of (item d ds) = d ∷ values_of ds

-- values that are all of a kind
abbrev pub of_kind : {A : Type 0} → (Data → Option A) → TableFault → List Data → Result (List A) TableFault
of_kind as_kind not_one ds = collect (λ n d. ok_or (as_kind d) not_one) 1 ds

abbrev pub array_in : {A : Type 0} → (Data → Option A) → TableFault → Option Items → Result (List A) TableFault
array_in as_kind not_one None = Err not_one
array_in as_kind not_one (Some items) = of_kind as_kind not_one (values_of items)

-- the array at a key, or the empty array if the key isn't set: 22 if it is no array, or a value in it is of
-- another kind
abbrev pub array_of : {A : Type 0} → (Data → Option A) → ℕ → ℕ → Option Data → Result (List A) TableFault
array_of as_kind part key None = Ok []
array_of as_kind part key (Some d) = array_in as_kind (fault WRONG_KIND part key) (as_array d)

abbrev pub count_in : Option Items → ℕ
count_in None = 0
count_in (Some items) = length (values_of items)

-- the number of values of the array at a key; 0 if it is no array
abbrev pub count_of : Option Data → ℕ
count_of None = 0
count_of (Some d) = count_in (as_array d)

-- the flag at a key, or false if the key isn't set: 22 if it is no truth value
abbrev pub flag_of : ℕ → ℕ → Option Data → Result Bool TableFault
flag_of part key None = Ok false
flag_of part key (Some d) = ok_or (as_bool d) (fault WRONG_KIND part key)
