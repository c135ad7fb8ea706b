-- A list of parameters, taken form by form.
use Rattle.std.proofs.Common.{◌≡◌, ℕ, zero, suc, ◌+◌, ◌<◌, List, [], ◌∷◌, length, get_or, drop, refl, arith}
use Rattle.std.proofs.Math.Seq.{drop-cons}
use Rattle.std.proofs.lemmas.List.{drop-drop, drop_all}
use Rattle.vt_sgr.specs.PenState.{PenState}
use Rattle.vt_sgr.specs.Sgr.{sgr, sgr_skipping, taken_by, with_form}

-- what belongs to the form before is passed over
sgr_skipping-drop : (taken : ℕ) (params : List ℕ) (p : PenState)
    → sgr_skipping taken params p ≡ sgr_skipping 0 (drop taken params) p
sgr_skipping-drop zero params p = refl
sgr_skipping-drop (suc taken) [] p = refl
sgr_skipping-drop (suc taken) (n ∷ rest) p = sgr_skipping-drop taken rest p

-- the next form was taken
pub form_more : (params : List ℕ) (at taken n : ℕ) (rest : List ℕ) (p q end : PenState)
    → at < length params → n ≡ get_or params at 0 → rest ≡ drop (at + 1) params
    → q ≡ with_form n rest p → taken ≡ taken_by n rest
    → sgr_skipping 0 (drop at params) p ≡ end
    → sgr_skipping 0 (drop (at + (1 + taken)) params) q ≡ end
form_more params at taken n rest p q end within n-is rest-is q-is taken-is so_far =
    let first : suc at ≡ at + 1 = omega arith in
    let others : at + 1 + taken ≡ at + (1 + taken) = omega arith in
    let formed : sgr_skipping 0 (n ∷ rest) p ≡ sgr_skipping 0 (drop (taken_by n rest) rest) (with_form n rest p) =
    sgr_skipping-drop (taken_by n rest) rest (with_form n rest p) in
    cc (drop-cons params at 0 within, drop-drop taken (at + 1) params)

-- the first parameter takes all others along
pub all_joined : (n : ℕ) (rest : List ℕ) (p : PenState) → taken_by n rest ≡ length rest
    → sgr (n ∷ rest) p ≡ with_form n rest p
all_joined n rest p all =
    cc (drop_all (length rest) rest (omega arith), sgr_skipping-drop (taken_by n rest) rest (with_form n rest p))

pub one_form : (params : List ℕ) (n : ℕ) (rest : List ℕ) (p : PenState) → 0 < length params → get_or params 0 0 ≡ n
    → rest ≡ drop 1 params → taken_by n rest ≡ length rest → sgr params p ≡ with_form n rest p
one_form [] n rest p some head tail all = absurd (omega (arith, some))
one_form (x ∷ xs) n rest p some head tail all = cc (all_joined n rest p all)
