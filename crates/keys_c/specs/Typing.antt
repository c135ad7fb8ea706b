-- The effect of a call that types a scan byte or a key, on what C holds.
use Rattle.std.specs.Prelude.{◌≡◌, ℕ, Bool, true, false, Option, Some, None}
use Rattle.key_machine.specs.declared.key_out.KeyOut.{KeyOut}
use Rattle.c_calls.specs.Codes.{NOTHING, OK, RANGE}
use Rattle.keys_c.specs.KeyOuts.{vt_key_of}
use Rattle.keys_c.specs.KeyState.{state_out}
use Rattle.keys_c.specs.KeyboardView.{KeyboardView}
use Rattle.keys_c.specs.Scanning.{ScanStep}
use Rattle.keys_c.specs.declared.vt_key.VtKey.{VtKey}
use Rattle.keys_c.specs.declared.vt_key_state.VtKeyState.{VtKeyState}

-- what such a call may change: the keyboard, the console's key state, and the result
pub record Typed : Type 0 where
  pub keyboard : Option KeyboardView
  pub state : VtKeyState
  pub key : VtKey

abbrev pub typed : Option KeyboardView → VtKeyState → VtKey → Typed
typed keyboard state key = record { keyboard = keyboard; state = state; key = key }

-- what the step makes of the keyboard and the state, and its result as it is shown
abbrev pub after_step : ScanStep → (KeyOut → KeyOut) → Typed → Typed
after_step step shown old =
    typed (Some step.keyboard) (state_out step.state old.state) (vt_key_of (shown step.out) old.key)

-- the step is done if the numbers are in their ranges; else nothing changes
abbrev pub TypesIf : Bool → ScanStep → (KeyOut → KeyOut) → ℕ → Typed → Typed → Type 0
TypesIf false step shown code old new = (code ≡ RANGE) × (new ≡ old)
TypesIf true step shown code old new = (code ≡ OK) × (new ≡ after_step step shown old)

-- the same if there is a keyboard
abbrev pub TypesOn :
    Option KeyboardView → Bool → (KeyboardView → ScanStep) → (KeyOut → KeyOut) → ℕ → Typed → Typed → Type 0
TypesOn None in_range step shown code old new = (code ≡ NOTHING) × (new ≡ old)
TypesOn (Some k) in_range step shown code old new = TypesIf in_range (step k) shown code old new

abbrev pub Types : Bool → (KeyboardView → ScanStep) → (KeyOut → KeyOut) → ℕ → Typed → Typed → Type 0
Types in_range step shown code old new = TypesOn old.keyboard in_range step shown code old new
