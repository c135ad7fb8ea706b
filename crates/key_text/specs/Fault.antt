-- A reading of a keymap: a value, or the first fault.
use Rattle.std.specs.Prelude.{◌≡◌, ℕ, Result, Ok, Err}
use Rattle.key_text.specs.declared.fault.KeyError.{KeyError}
use Rattle.key_text.specs.declared.fault.KeyError.TheVariants as errors
use Rattle.key_text.specs.declared.fault.KeyFault.{KeyFault}
use Rattle.key_text.specs.declared.placed.Place.{Place}

-- a fault of a kind at a place
abbrev pub fault : ℕ → Place → KeyFault
fault kind at = record { kind = kind; line = at.line; column = at.column }

infixl 10 ◌>>=◌
abbrev pub ◌>>=◌ : {A B : Type 0} → Result A KeyFault → (A → Result B KeyFault) → Result B KeyFault
(Ok x) >>= f = f x
(Err e) >>= f = Err e

-- the error that a call returned in place of a value is that of reading, unless memory ran out
abbrev pub Fails : {Y : Type 0} → KeyError → Result Y KeyFault → Type 0
Fails errors.NoMemory read = Unit {0}
Fails (errors.Fault f) read = read ≡ Err f

-- the value that a call returned, seen by `view`, is that of reading, unless memory ran out
abbrev pub Gives : {X Y : Type 0} → (X → Y) → Result X KeyError → Result Y KeyFault → Type 0
Gives view (Ok x) read = read ≡ Ok (view x)
Gives view (Err e) read = Fails e read
