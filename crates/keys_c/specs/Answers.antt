-- The code and the keyboard after a call that changes a keyboard, and what a call that reads one writes.
use Rattle.std.specs.Prelude.{◌≡◌, ℕ, Bool, cond, Option, Some, None}
use Rattle.c_calls.specs.Codes.{NOTHING, OK, RANGE}
use Rattle.keys_c.specs.KeyboardView.{KeyboardView}

-- the keyboard changes if there is one and it takes the numbers
abbrev pub ChangesIf :
    Option KeyboardView → (KeyboardView → Bool) → (KeyboardView → KeyboardView) → ℕ → Option KeyboardView → Type 0
ChangesIf None takes change code new = (code ≡ NOTHING) × (new ≡ None)
ChangesIf (Some k) takes change code new =
    (code ≡ cond (takes k) OK RANGE) × (new ≡ Some (cond (takes k) (change k) k))

-- the same if every keyboard takes numbers that are in their ranges
abbrev pub Changes : Option KeyboardView → Bool → (KeyboardView → KeyboardView) → ℕ → Option KeyboardView → Type 0
Changes old in_range change code new = ChangesIf old (λ k. in_range) change code new

-- a value of the keyboard is written if there is one and the numbers are in their ranges
abbrev pub Reads : {A : Type 0} → Option KeyboardView → Bool → (KeyboardView → A) → ℕ → A → A → Type 0
Reads None in_range value code old new = (code ≡ NOTHING) × (new ≡ old)
Reads (Some k) in_range value code old new = (code ≡ cond in_range OK RANGE) × (new ≡ cond in_range (value k) old)
