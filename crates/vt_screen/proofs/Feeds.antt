-- A run of a text, piece by piece.
use Rattle.std.proofs.Common.{◌≡◌, ℕ, ◌+◌, ◌<◌, ◌-◌, List, [], ◌∷◌, ◌++◌, Option, take, drop, drop-cons, get_or, length, refl, sym, ap, ◌∙◌, subst, arith, length-drop}
use Rattle.std.proofs.Math.Seq.{take-add}
use Rattle.std.proofs.lemmas.List.{take_rest}
use Rattle.vt_screen.proofs.Cuts.{make_reached-behind, run-from}
use Rattle.vt_screen.proofs.Quiet.{quiet_one}
use Rattle.vt_screen.specs.Run.{HasRun, ScreenAndOuts, after, outs_of_option, outs_of_run, run_from, screen_effects, with_outs}
use Rattle.vt_canvas.specs.Screen.{Screen}
use Rattle.vt_canvas.specs.declared.out.Out.{Out}
use Rattle.vt_units.proofs.Runs.{any_cut}
use Rattle.vt_units.specs.Run.{Reached, make_reached}

-- what is left of a text from a place on, as the code slices it
abbrev pub left_of : List ℕ → ℕ → List ℕ
left_of text at = take (length text - at) (drop at text)

-- no bytes change nothing
pub none_run : (old : Reached Screen) (text : List ℕ) (n : ℕ) (new : Reached Screen) (said : Option Out) → n ≡ 0
    → HasRun old text n new said → old ≡ new
none_run old text n new said none ran =
    ap (λ (m : Reached ScreenAndOuts). make_reached m.state.screen m.rest)
    (subst (λ (k : ℕ). run_from old (take k text) ≡ with_outs (outs_of_option said) new) none ran.1)

pub take_one : (text : List ℕ) → 0 < length text → take 1 text ≡ get_or text 0 0 ∷ []
take_one [] some = absurd (omega (arith, some))
take_one (b ∷ text) some = refl

-- so many bytes more, after those before place at
pub runs_on : (text : List ℕ) (at n : ℕ) (start before new : Reached Screen) (said : Option Out)
    → before ≡ after start (take at text) → HasRun before (left_of text at) n new said
    → (new ≡ after start (take (at + n) text))
    × (outs_of_run start (take at text) ++ outs_of_option said ≡ outs_of_run start (take (at + n) text))
runs_on text at n start before new said done ran =
    let front : List ℕ = take at text in
    let bytes : List ℕ = take n (drop at text) in
    let here : run_from (after start front) bytes ≡ with_outs (outs_of_option said) new =
    (λ i. run_from (sym done i) (take n (sym (take_rest text at) i))) ∙ ran.1 in
    let all : run_from start (take (at + n) text) ≡ with_outs (outs_of_run start front ++ outs_of_option said) new =
    ap (run_from start) (take-add at n text)
    ∙ any_cut screen_effects front bytes (with_outs [] start)
    ∙ run-from (outs_of_run start front) (after start front) bytes
    ∙ ap (make_reached-behind (outs_of_run start front)) here in (
      sym (ap (λ (m : Reached ScreenAndOuts). make_reached m.state.screen m.rest) all),
      sym (ap (λ (m : Reached ScreenAndOuts). m.state.outs) all),
    )

-- the byte at a place
pub byte_run : (text : List ℕ) (at : ℕ) (old new : Reached Screen) (said : Option Out) → at < length text
    → run_from old (get_or text at 0 ∷ []) ≡ with_outs (outs_of_option said) new
    → HasRun old (left_of text at) 1 new said
byte_run text at old new said within ran = (
  omega (arith, within, ap (λ (bytes : List ℕ). length bytes) (take_rest text at), length-drop at text),
  ap (run_from old) (ap (take 1) (take_rest text at ∙ drop-cons text at 0 within)) ∙ ran,
  quiet_one old (left_of text at),
)
