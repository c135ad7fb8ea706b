-- The requests of each case of the effect table.
use Rattle.std.proofs.Common.{◌≡◌, ℕ, ◌≤◌, ◌==◌, ◌&&◌, ◌||◌, Bool, true, false, List, nat_le, cond, Some, None, refl, arith}
use Rattle.std.specs.Prelude.{Option}
use Rattle.vt_screen.specs.Asking.{asks}
use Rattle.vt_canvas.specs.Effect.{control, control_sequence, effect, escape, number_at, plain_escape, private_sequence}
use Rattle.vt_canvas.specs.Saying.{Effect, console_setting, device_report, lights, without_out, with_out, status_report}
use Rattle.vt_canvas.specs.Screen.{Screen}
use Rattle.vt_canvas.specs.declared.out.Out.{Out}
use Rattle.vt_canvas.specs.declared.out.Out.TheVariants.{SwitchTo}
use Rattle.vt_units.specs.declared.unit.Unit as units

-- what is said asks once, or not at all
abbrev pub asked : Option Out → ℕ
asked None = 0
asked (Some out) = cond (asks out) 1 0

-- the settings that ask for a console
abbrev pub is_request : ℕ → Bool
is_request which = which == 12 || which == 15

abbrev pub asking_sequence : List ℕ → ℕ → Bool
asking_sequence params last = last == 0x5D && is_request (number_at params 0)

-- the units that may ask
abbrev pub asking : units.Unit → Bool
asking (units.Unit.Csi private params last) = cond private false (asking_sequence params last)
asking (units.Unit.Char code) = false
asking (units.Unit.Byte b) = false
asking (units.Unit.Control code) = false
asking (units.Unit.Esc mid last) = false
asking (units.Unit.Colour n rgb) = false
asking units.Unit.ColourReset = false
asking units.Unit.Ignored = false

abbrev pub counted : Bool → ℕ
counted test = cond test 1 0

pub least : (n : ℕ) → 0 ≤ n
least n = omega arith

-- the effect table: what asks nothing
both_without_out : (test : Bool) (a b : Effect) → asked a.said ≡ 0 → asked b.said ≡ 0 → asked (cond test a b).said ≡ 0
both_without_out true a b first second = first
both_without_out false a b first second = second

device_without_out : (which : ℕ) (s : Screen) → asked (device_report which s).said ≡ 0
unfolding device_report
device_without_out which s = both_without_out (which == 0) _ (without_out s) refl refl

status_without_out : (which : ℕ) (s : Screen) → asked (status_report which s).said ≡ 0
unfolding status_report
status_without_out which s = both_without_out (which == 5) _ _ refl (both_without_out (which == 6) _ (without_out s) refl refl)

lights-without_out : (which : ℕ) (s : Screen) → asked (lights which s).said ≡ 0
unfolding lights
lights-without_out which s =
    both_without_out (which == 0) _ _ refl
    (both_without_out (which == 1) _ _ refl (both_without_out (which == 2) _ _ refl (both_without_out (which == 3) _ (without_out s) refl refl)))

pub control-without_out : (code : ℕ) (s : Screen) → asked (control code s).said ≡ 0
unfolding control
control-without_out code s =
    both_without_out (code == 0x07) _ _ refl
    (both_without_out (code == 0x08) _ _ refl
    (both_without_out (code == 0x09) _ _ refl
    (both_without_out (code == 0x0A) _ _ refl
    (both_without_out (code == 0x0B) _ _ refl
    (both_without_out (code == 0x0C) _ _ refl
    (both_without_out (code == 0x0D) _ _ refl
    (both_without_out (code == 0x0E) _ _ refl
    (both_without_out (code == 0x0F) _ (without_out s) refl refl))))))))

plain_escape-without_out : (last : ℕ) (s : Screen) → asked (plain_escape last s).said ≡ 0
unfolding plain_escape
plain_escape-without_out last s =
    both_without_out (last == 0x63) _ _ refl
    (both_without_out (last == 0x44) _ _ refl
    (both_without_out (last == 0x45) _ _ refl
    (both_without_out (last == 0x48) _ _ refl
    (both_without_out (last == 0x4D) _ _ refl
    (both_without_out (last == 0x5A) _ _ (device_without_out 0 s)
    (both_without_out (last == 0x37) _ _ refl
    (both_without_out (last == 0x38) _ _ refl
    (both_without_out (last == 0x3E) _ _ refl
    (both_without_out (last == 0x3D) _ (without_out s) refl refl)))))))))

escape-without_out : (mid last : ℕ) (s : Screen) → asked (escape mid last s).said ≡ 0
unfolding escape
escape-without_out mid last s =
    both_without_out (mid == 0) _ _ (plain_escape-without_out last s)
    (both_without_out (mid == 0x25) _ _ refl
    (both_without_out (mid == 0x23) _ _ refl
    (both_without_out (mid == 0x28) _ _ refl
    (both_without_out (mid == 0x29) _ (without_out s) refl refl))))

private_without_out : (params : List ℕ) (last : ℕ) (s : Screen) → asked (private_sequence params last s).said ≡ 0
unfolding private_sequence
private_without_out params last s =
    both_without_out (last == 0x68) _ _ refl (both_without_out (last == 0x6C) _ (without_out s) refl refl)

-- what asks at most so often
both_asked : (n : ℕ) (test : Bool) (a b : Effect) → asked a.said ≡ 0 → asked b.said ≤ n → asked (cond test a b).said ≤ n
both_asked n true a b first second = let h = first in omega arith
both_asked n false a b first second = second

either_asked : (n : ℕ) (test : Bool) (a b : Effect) → (test ≡ true → asked a.said ≤ n) → asked b.said ≤ n
    → asked (cond test a b).said ≤ n
either_asked n true a b first second = first refl
either_asked n false a b first second = second

one_asked : (out : Option Out) → asked out ≤ 1
one_asked None = omega arith
one_asked (Some out) = by (asks out)
  where
    by : (test : Bool) → cond test 1 0 ≤ 1
    by true = omega arith
    by false = omega arith

counts : (a b c : Bool) → a ≡ true → b ≡ true → 1 ≤ counted (a && (b || c))
counts a b c e f = rw (e, f) (omega arith)

counts_second : (a b c : Bool) → a ≡ true → c ≡ true → 1 ≤ counted (a && (b || c))
counts_second a true c e f = rw e (omega arith)
counts_second a false c e f = rw (e, f) (omega arith)

setting_asks : (last which value : ℕ) (s : Screen) → (last == 0x5D) ≡ true
    → asked (console_setting which value s).said ≤ counted (last == 0x5D && is_request which)
unfolding console_setting
setting_asks last which value s e =
    let n = counted (last == 0x5D && is_request which) in
    both_asked n (which == 1) _ _ refl
    (both_asked n (which == 2) _ _ refl
    (both_asked n (which == 8) _ _ refl
    (either_asked n (which == 12) _ _
    (λ f. let to : Effect = cond (nat_le 1 value && nat_le value 63) (with_out (SwitchTo value) s) (without_out s) in
    let most : asked to.said ≤ 1 = one_asked to.said in
    let least : 1 ≤ counted (last == 0x5D && is_request which) =
    counts (last == 0x5D) (which == 12) (which == 15) e f in omega (arith, most, least))
    (either_asked n (which == 15) _ (without_out s)
    (λ f. counts_second (last == 0x5D) (which == 12) (which == 15) e f) (least n)))))

sequence_asks : (params : List ℕ) (last : ℕ) (s : Screen)
    → asked (control_sequence params last s).said ≤ counted (asking_sequence params last)
unfolding control_sequence
sequence_asks params last s =
    let n = counted (asking_sequence params last) in
    let first = number_at params 0 in
    let second = number_at params 1 in
    both_asked n (last == 0x40) _ _ refl
    (both_asked n (last == 0x41) _ _ refl
    (both_asked n (last == 0x42) _ _ refl
    (both_asked n (last == 0x43) _ _ refl
    (both_asked n (last == 0x44) _ _ refl
    (both_asked n (last == 0x45) _ _ refl
    (both_asked n (last == 0x46) _ _ refl
    (both_asked n (last == 0x47) _ _ refl
    (both_asked n (last == 0x48) _ _ refl
    (both_asked n (last == 0x4A) _ _ refl
    (both_asked n (last == 0x4B) _ _ refl
    (both_asked n (last == 0x4C) _ _ refl
    (both_asked n (last == 0x4D) _ _ refl
    (both_asked n (last == 0x50) _ _ refl
    (both_asked n (last == 0x58) _ _ refl
    (both_asked n (last == 0x61) _ _ refl
    (both_asked n (last == 0x63) _ _ (device_without_out first s)
    (both_asked n (last == 0x64) _ _ refl
    (both_asked n (last == 0x65) _ _ refl
    (both_asked n (last == 0x66) _ _ refl
    (both_asked n (last == 0x67) _ _ refl
    (both_asked n (last == 0x68) _ _ refl
    (both_asked n (last == 0x6C) _ _ refl
    (both_asked n (last == 0x6D) _ _ refl
    (both_asked n (last == 0x6E) _ _ (status_without_out first s)
    (both_asked n (last == 0x71) _ _ (lights-without_out first s)
    (both_asked n (last == 0x72) _ _ refl
    (both_asked n (last == 0x73) _ _ refl
    (both_asked n (last == 0x75) _ _ refl
    (both_asked n (last == 0x60) _ _ refl
    (either_asked n (last == 0x5D) _ (without_out s) (setting_asks last first second s) (least n)))))))))))))))))))))))))))))))

either_private : (private : Bool) (a b : Effect) (test : Bool) → asked a.said ≡ 0 → asked b.said ≤ counted test
    → asked (cond private a b).said ≤ counted (cond private false test)
either_private true a b test first second = let h = first in omega arith
either_private false a b test first second = second

pub effect-asks : (u : units.Unit) (s : Screen) → asked (effect u s).said ≤ counted (asking u)
effect-asks (units.Unit.Char code) s = omega arith
effect-asks (units.Unit.Byte b) s = omega arith
effect-asks (units.Unit.Control code) s = let h = control-without_out code s in omega arith
effect-asks (units.Unit.Esc mid last) s = let h = escape-without_out mid last s in omega arith
effect-asks (units.Unit.Csi private params last) s =
    either_private private _ _ (asking_sequence params last) (private_without_out params last s) (sequence_asks params last s)
effect-asks (units.Unit.Colour n rgb) s = omega arith
effect-asks units.Unit.ColourReset s = omega arith
effect-asks units.Unit.Ignored s = omega arith
