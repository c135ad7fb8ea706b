-- The rows that fall out: no cut of a text matters, and the screens are those of the run with side effects.
use Rattle.std.proofs.Common.{◌≡◌, ℕ, zero, suc, ◌+◌, ◌-◌, ◌<◌, ◌≤◌, Bool, true, false, List, [], ◌∷◌, ◌++◌, take, drop, refl, sym, ap, ◌∙◌, arith, append_assoc, if◌then◌else◌, ⊎_elim}
use Rattle.std.proofs.Math.Seq.{take-add}
use Rattle.std.proofs.lemmas.Bool.{cases_lt}
use Rattle.std.proofs.lemmas.List.{append-nil}
use Rattle.vt_canvas.specs.Effect.{control, effect}
use Rattle.vt_canvas.specs.Falling.{fallen}
use Rattle.vt_canvas.specs.Screen.{Screen, mode_of}
use Rattle.vt_cells.specs.declared.cell.Cell.{Cell}
use Rattle.vt_screen.specs.Falling.{AnyRowCut, LosesNoRowBefore, ScreenAndRows, row_effects, rows_of_run, then_fallen, with_rows}
use Rattle.vt_screen.specs.Run.{ScreenAndOuts, after, screen_effects, then_done, with_outs}
use Rattle.vt_units.proofs.Runs.{any_cut}
use Rattle.vt_units.specs.Answer.{answer, rest_after}
use Rattle.vt_units.specs.Run.{Reached, effect_of, effects_of, make_reached, run, step}
use Rattle.vt_units.specs.declared.read.Read.{Read}
use Rattle.vt_units.specs.declared.then.Then as then
use Rattle.vt_units.specs.declared.unit.Unit as units
use Rattle.vt_units.specs.declared.unit.Unit.TheVariants.{Control}

-- the same, with more rows before
abbrev pub below : List (List Cell) → ScreenAndRows → ScreenAndRows
below rows t = record { screen = t.screen; rows = rows ++ t.rows }

abbrev pub make_reached-below : List (List Cell) → Reached ScreenAndRows → Reached ScreenAndRows
make_reached-below rows at = make_reached (below rows at.state) at.rest

fallen_below : (u : units.Unit) (rows : List (List Cell)) (t : ScreenAndRows)
    → then_fallen u (below rows t) ≡ below rows (then_fallen u t)
fallen_below u rows t =
    let joined : (rows ++ t.rows) ++ fallen u t.screen ≡ rows ++ (t.rows ++ fallen u t.screen) =
    append_assoc rows t.rows (fallen u t.screen) in
    λ i. record { screen = (effect u t.screen).screen; rows = joined i }

got_below : (got : then.Then) (rows : List (List Cell)) (t : ScreenAndRows)
    → effect_of row_effects got (below rows t) ≡ below rows (effect_of row_effects got t)
got_below (then.Then.Unit u) rows t = fallen_below u rows t
got_below (then.Then.Act c) rows t = fallen_below (Control c) rows t
got_below then.Then.More rows t = refl
got_below then.Then.Dropped rows t = refl

abbrev malformed : Bool → ScreenAndRows → ScreenAndRows
malformed bad t = if bad then then_fallen (units.Unit.Char 0xFFFD) t else t

bad_below : (bad : Bool) (rows : List (List Cell)) (t : ScreenAndRows)
    → malformed bad (below rows t) ≡ below rows (malformed bad t)
bad_below true rows t = fallen_below (units.Unit.Char 0xFFFD) rows t
bad_below false rows t = refl

step-below : (b : ℕ) (rows : List (List Cell)) (at : Reached ScreenAndRows)
    → step row_effects b (make_reached-below rows at) ≡ make_reached-below rows (step row_effects b at)
step-below b rows at =
    let read : Read = answer at.rest (mode_of at.state.screen) b in
    let first : malformed read.bad (below rows at.state) ≡ below rows (malformed read.bad at.state) =
    bad_below read.bad rows at.state in
    let both : effect_of row_effects read.got (malformed read.bad (below rows at.state))
    ≡ below rows (effect_of row_effects read.got (malformed read.bad at.state)) =
    ap (effect_of row_effects read.got) first ∙ got_below read.got rows (malformed read.bad at.state) in
    ap (λ t. make_reached t (rest_after at.rest (mode_of at.state.screen) b)) both

run-below : (bytes : List ℕ) (rows : List (List Cell)) (at : Reached ScreenAndRows)
    → run row_effects bytes (make_reached-below rows at) ≡ make_reached-below rows (run row_effects bytes at)
run-below [] rows at = refl
run-below (b ∷ bytes) rows at =
    ap (run row_effects bytes) (step-below b rows at) ∙ run-below bytes rows (step row_effects b at)

-- a run after which more rows had fallen out before
rows-from : (rows : List (List Cell)) (m : Reached Screen) (bytes : List ℕ)
    → run row_effects bytes (with_rows rows m) ≡ make_reached-below rows (run row_effects bytes (with_rows [] m))
rows-from rows m bytes =
    let none : rows ++ [] ≡ rows = append-nil rows in
    ap (λ (o : List (List Cell)). run row_effects bytes (with_rows o m)) (sym none)
    ∙ run-below bytes rows (with_rows [] m)

-- both have the same screen and the same rest
abbrev AreSame : Reached ScreenAndRows → Reached ScreenAndOuts → Type 0
AreSame at to = (at.state.screen ≡ to.state.screen) × (at.rest ≡ to.rest)

got_same : (got : then.Then) (t : ScreenAndRows) (o : ScreenAndOuts) → t.screen ≡ o.screen
    → (effect_of row_effects got t).screen ≡ (effect_of screen_effects got o).screen
got_same (then.Then.Unit u) t o same = ap (λ (s : Screen). (effect u s).screen) same
got_same (then.Then.Act c) t o same = ap (λ (s : Screen). (control c s).screen) same
got_same then.Then.More t o same = same
got_same then.Then.Dropped t o same = same

abbrev malformed_out : Bool → ScreenAndOuts → ScreenAndOuts
malformed_out bad o = if bad then then_done (effect (units.Unit.Char 0xFFFD)) o else o

bad_same : (bad : Bool) (t : ScreenAndRows) (o : ScreenAndOuts) → t.screen ≡ o.screen
    → (malformed bad t).screen ≡ (malformed_out bad o).screen
bad_same true t o same = ap (λ (s : Screen). (effect (units.Unit.Char 0xFFFD) s).screen) same
bad_same false t o same = same

step_same : (b : ℕ) (at : Reached ScreenAndRows) (to : Reached ScreenAndOuts) → AreSame at to
    → AreSame (step row_effects b at) (step screen_effects b to)
step_same b at to (same, rest) =
    let read : Read = answer at.rest (mode_of at.state.screen) b in
    let other : Read = answer to.rest (mode_of to.state.screen) b in
    let reads : read ≡ other = λ i. answer (rest i) (mode_of (same i)) b in (
      ap (λ (r : Read). (effects_of row_effects r at.state).screen) reads
          ∙ got_same other.got (malformed other.bad at.state) (malformed_out other.bad to.state)
          (bad_same other.bad at.state to.state same),
      λ i. rest_after (rest i) (mode_of (same i)) b,
    )

run_same : (bytes : List ℕ) (at : Reached ScreenAndRows) (to : Reached ScreenAndOuts) → AreSame at to
    → AreSame (run row_effects bytes at) (run screen_effects bytes to)
run_same [] at to same = same
run_same (b ∷ bytes) at to same =
    run_same bytes (step row_effects b at) (step screen_effects b to) (step_same b at to same)

-- a run has the screen and the rest of the run with side effects
rows_end : (m : Reached Screen) (bytes : List ℕ)
    → run row_effects bytes (with_rows [] m) ≡ with_rows (rows_of_run m bytes) (after m bytes)
rows_end m bytes =
    let same = run_same bytes (with_rows [] m) (with_outs [] m) (refl, refl) in
    λ i. make_reached (record { screen = same.0 i; rows = rows_of_run m bytes }) (same.1 i)

pub row_cuts : AnyRowCut
row_cuts m a b =
    ap (λ (end : Reached ScreenAndRows). end.state.rows)
    (any_cut row_effects a b (with_rows [] m)
    ∙ ap (run row_effects b) (rows_end m a)
    ∙ rows-from (rows_of_run m a) (after m a) b)

pub none_lost_none : (old : Reached Screen) (text : List ℕ) → LosesNoRowBefore 0 old text
none_lost_none old text k less = absurd (omega (arith, less))

pub none_lost_one : (old : Reached Screen) (text : List ℕ) → LosesNoRowBefore 1 old text
none_lost_one old text zero less = refl
none_lost_one old text (suc k) less = absurd (omega (arith, less))

left-empty : (a b : List (List Cell)) → a ++ b ≡ [] → a ≡ []
left-empty [] b is = refl
left-empty (x ∷ a) b is = absurd (let no : ⊥ = cc in no)

-- a longer beginning of a text is a shorter one and more bytes
front_of : (text : List ℕ) (k n : ℕ) → k ≤ n → (more : List ℕ) × (take n text ≡ take k text ++ more)
front_of text zero n less = (take n text, refl)
front_of [] (suc k) zero less = ([], refl)
front_of [] (suc k) (suc n) less = ([], refl)
front_of (b ∷ text) (suc k) zero less = absurd (omega (arith, less))
front_of (b ∷ text) (suc k) (suc n) less =
    let p = front_of text k n (omega (arith, less)) in (p.0, ap (λ (xs : List ℕ). b ∷ xs) p.1)

-- if no row falls out by so many bytes, none does by the first of them
pub none_lost_all : (old : Reached Screen) (text : List ℕ) (n : ℕ) → rows_of_run old (take n text) ≡ [] → LosesNoRowBefore n old text
none_lost_all old text n none k less =
    let p = front_of text k n (omega (arith, less)) in
    left-empty (rows_of_run old (take k text)) (rows_of_run (after old (take k text)) p.0)
    (sym (row_cuts old (take k text) p.0) ∙ ap (rows_of_run old) (sym p.1) ∙ none)

-- bytes behind place at, after those before it
pub rows_on : (text : List ℕ) (at n : ℕ) (start before : Reached Screen) → before ≡ after start (take at text)
    → rows_of_run start (take at text) ++ rows_of_run before (take n (drop at text))
    ≡ rows_of_run start (take (at + n) text)
rows_on text at n start before done =
    ap (λ (m : Reached Screen). rows_of_run start (take at text) ++ rows_of_run m (take n (drop at text))) done
    ∙ sym (row_cuts start (take at text) (take n (drop at text)))
    ∙ ap (rows_of_run start) (sym (take-add at n text))

pub none_lost_on : (text : List ℕ) (at n : ℕ) (start before : Reached Screen)
    → before ≡ after start (take at text) → rows_of_run start (take at text) ≡ []
    → LosesNoRowBefore at start text → LosesNoRowBefore n before (drop at text) → LosesNoRowBefore (at + n) start text
none_lost_on text at n start before done none first next k less = ⊎_elim
    (λ (early : k < at). first k early)
    (λ late.
    let j : ℕ = k - at in
    let place : at + j ≡ k = omega (arith, late) in
    let own : rows_of_run before (take j (drop at text)) ≡ [] = next j (omega (arith, late, less)) in
    ap (λ (i : ℕ). rows_of_run start (take i text)) (sym place)
    ∙ sym (rows_on text at j start before done)
    ∙ (λ i. none i ++ own i))
    (cases_lt k at)
