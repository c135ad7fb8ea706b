-- The run of bytes over a state: each byte is answered, and the answers have their effects in order.
use Rattle.std.specs.Prelude.{◌≡◌, ℕ, List, [], ◌∷◌, if◌then◌else◌}
use Rattle.vt_units.specs.Answer.{answer, rest_after}
use Rattle.vt_units.specs.Rest.{Rest}
use Rattle.vt_units.specs.declared.mode.Mode.{Mode}
use Rattle.vt_units.specs.declared.read.Read.{Read}
use Rattle.vt_units.specs.declared.then.Then as then
use Rattle.vt_units.specs.declared.unit.Unit as units

-- the effects of units on a state, and the mode that a state gives its bytes
pub record Effects (S : Type 0) : Type 0 where
  pub mode_of : S → Mode
  pub on_control : ℕ → S → S
  pub on_unit : units.Unit → S → S

-- a state, and the rest of the text that made it
pub record Reached (S : Type 0) : Type 0 where
  pub state : S
  pub rest : Rest

abbrev pub make_reached : {S : Type 0} → S → Rest → Reached S
make_reached s r = record { state = s; rest = r }

-- the effect of the result of a byte
abbrev pub effect_of : {S : Type 0} → Effects S → then.Then → S → S
effect_of e (then.Then.Unit u) s = e.on_unit u s
effect_of e (then.Then.Act c) s = e.on_control c s
effect_of e then.Then.More s = s
effect_of e then.Then.Dropped s = s

-- the effects of an answer: that of malformed bytes before it comes first
abbrev pub effects_of : {S : Type 0} → Effects S → Read → S → S
effects_of e read s =
    effect_of e read.got (if read.bad then e.on_unit (units.Unit.Char 0xFFFD) s else s)

-- one byte, with the mode of the state before it
abbrev pub step : {S : Type 0} → Effects S → ℕ → Reached S → Reached S
step e b at =
    let m = e.mode_of at.state in
    make_reached (effects_of e (answer at.rest m b) at.state) (rest_after at.rest m b)

-- run: the bytes in order
abbrev pub run : {S : Type 0} → Effects S → List ℕ → Reached S → Reached S
run e [] at = at
run e (b ∷ bytes) at = run e bytes (step e b at)
