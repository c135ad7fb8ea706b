-- Texts without a side effect before their last byte.
use Rattle.std.proofs.Common.{◌≡◌, ℕ, zero, suc, ◌+◌, ◌-◌, ◌<◌, ◌≤◌, List, [], ◌∷◌, ◌++◌, take, drop, length, take-take, refl, sym, ap, ◌∙◌, arith, ⊎_elim}
use Rattle.std.proofs.Math.Seq.{take-add}
use Rattle.std.proofs.lemmas.Bool.{cases_lt}
use Rattle.std.proofs.lemmas.List.{length-take-le}
use Rattle.vt_screen.proofs.Cuts.{cuts}
use Rattle.vt_screen.specs.Run.{IsQuietBefore, ScreenAndOuts, after, outs_of_run, run_from, screen_effects, with_outs}
use Rattle.vt_canvas.specs.Screen.{Screen, mode_of}
use Rattle.vt_canvas.specs.declared.out.Out.{Out}
use Rattle.vt_units.specs.Answer.{answer, rest_after}
use Rattle.vt_units.specs.Laws.{ComeTo}
use Rattle.vt_units.specs.Rest.{Rest}
use Rattle.vt_units.specs.Run.{Reached, effects_of, make_reached, run, step}
use Rattle.vt_units.specs.declared.mode.Mode.{Mode}
use Rattle.vt_units.specs.declared.read.Read.{Read}
use Rattle.vt_units.specs.declared.unit.Unit as units

pub quiet_none : (old : Reached Screen) (text : List ℕ) → IsQuietBefore 0 old text
quiet_none old text k less = absurd (omega (arith, less))

pub quiet_one : (old : Reached Screen) (text : List ℕ) → IsQuietBefore 1 old text
quiet_one old text zero less = refl
quiet_one old text (suc k) less = absurd (omega (arith, less))

left-empty : (a b : List Out) → a ++ b ≡ [] → a ≡ []
left-empty [] b is = refl
left-empty (x ∷ a) b is = absurd (let no : ⊥ = cc in no)

-- a longer beginning of a text is a shorter one and more bytes
front_of : (text : List ℕ) (k n : ℕ) → k ≤ n → (more : List ℕ) × (take n text ≡ take k text ++ more)
front_of text zero n less = (take n text, refl)
front_of [] (suc k) zero less = ([], refl)
front_of [] (suc k) (suc n) less = ([], refl)
front_of (b ∷ text) (suc k) zero less = absurd (omega (arith, less))
front_of (b ∷ text) (suc k) (suc n) less =
    let p = front_of text k n (omega (arith, less)) in (p.0, ap (λ (xs : List ℕ). b ∷ xs) p.1)

-- if so many bytes have no side effect, the first of them have none
pub quiet_all : (old : Reached Screen) (text : List ℕ) (n : ℕ) → outs_of_run old (take n text) ≡ [] → IsQuietBefore n old text
quiet_all old text n none k less =
    let p = front_of text k n (omega (arith, less)) in
    left-empty (outs_of_run old (take k text)) (outs_of_run (after old (take k text)) p.0)
    (sym (cuts old (take k text) p.0).1 ∙ ap (outs_of_run old) (sym p.1) ∙ none)

pub quiet_run : (old : Reached Screen) (text : List ℕ) (n : ℕ) (new : Reached Screen)
    → run_from old (take n text) ≡ with_outs [] new → IsQuietBefore n old text
quiet_run old text n new ran =
    quiet_all old text n (ap (λ (m : Reached ScreenAndOuts). m.state.outs) ran)

-- the bytes of a sequence before its last one have none
come-quiet : (u : units.Unit) (m : Mode) (bytes : List ℕ) (s : ScreenAndOuts) (old : Rest)
    → mode_of s.screen ≡ m → ComeTo u m old bytes → (k : ℕ) → k < length bytes
    → (run screen_effects (take k bytes) (make_reached s old)).state ≡ s
come-quiet u m [] s old mode comes k less = absurd comes
come-quiet u m (b ∷ []) s old mode comes zero less = refl
come-quiet u m (b ∷ []) s old mode comes (suc k) less = absurd (omega (arith, less))
come-quiet u m (b ∷ c ∷ bytes) s old mode comes zero less = refl
come-quiet u m (b ∷ c ∷ bytes) s old mode comes (suc k) less =
    let first : step screen_effects b (make_reached s old) ≡ make_reached s (rest_after old m b) =
    ap (λ (n : Mode). make_reached (effects_of screen_effects (answer old n b) s) (rest_after old n b)) mode
    ∙ ap (λ (r : Read). make_reached (effects_of screen_effects r s) (rest_after old m b)) comes.0 in
    ap (λ (at : Reached ScreenAndOuts). (run screen_effects (take k (c ∷ bytes)) at).state) first
    ∙ come-quiet u m (c ∷ bytes) s (rest_after old m b) mode comes.1 k (omega (arith, less))

pub quiet_sequence : (u : units.Unit) (m : Mode) (text : List ℕ) (count : ℕ) (s : Screen) (rest : Rest) → count ≤ length text
    → mode_of s ≡ m → ComeTo u m rest (take count text) → IsQuietBefore count (make_reached s rest) text
quiet_sequence u m text count s rest within mode comes k less =
    let long : k < length (take count text) = omega (arith, less, length-take-le count text within) in
    ap (λ (xs : List ℕ). outs_of_run (make_reached s rest) xs) (sym (take-take k count text (omega (arith, less))))
    ∙ ap (λ (t : ScreenAndOuts). t.outs)
    (come-quiet u m (take count text) (record { screen = s; outs = [] }) rest mode comes k long)

-- bytes behind place at, after those before it
pub quiet_on : (text : List ℕ) (at n : ℕ) (start before : Reached Screen)
    → before ≡ after start (take at text) → outs_of_run start (take at text) ≡ []
    → IsQuietBefore at start text → IsQuietBefore n before (drop at text) → IsQuietBefore (at + n) start text
quiet_on text at n start before done none first then k less = ⊎_elim
    (λ (early : k < at). first k early)
    (λ late.
    let j : ℕ = k - at in
    let place : at + j ≡ k = omega (arith, late) in
    let bytes : List ℕ = take j (drop at text) in
    let cut : take (at + j) text ≡ take at text ++ bytes = take-add at j text in
    let own : outs_of_run (after start (take at text)) bytes ≡ [] =
    ap (λ (m : Reached Screen). outs_of_run m bytes) (sym done) ∙ then j (omega (arith, late, less)) in
    ap (λ (i : ℕ). outs_of_run start (take i text)) (sym place)
    ∙ ap (outs_of_run start) cut
    ∙ (cuts start (take at text) bytes).1
    ∙ (λ i. none i ++ own i))
    (cases_lt k at)
