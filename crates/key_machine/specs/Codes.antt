-- The characters that go out, as the code has them. No public clause names this.
use Rattle.std.specs.Prelude.{ℕ, List, [], ◌∷◌}
use Rattle.key_machine.specs.Compose.{Typed, make_typed}
use Rattle.key_machine.specs.declared.accents.TypedCodes.{TypedCodes}
use Rattle.key_machine.specs.declared.accents.TypedCodes.TheVariants.{Zero, One, Two}
use Rattle.key_machine.specs.declared.waiting.Waiting.{Waiting}

abbrev pub codes_of : TypedCodes → List ℕ
codes_of Zero = []
codes_of (One a) = a ∷ []
codes_of (Two a b) = a ∷ b ∷ []

abbrev pub typed_of : TypedCodes → Waiting → Typed
typed_of codes waiting = make_typed (codes_of codes) waiting
