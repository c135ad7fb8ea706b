-- The laws of runs, for each state.
use Rattle.std.proofs.Common.{◌≡◌, ℕ, true, List, subst, [], ◌∷◌, ◌++◌, refl, ap, ◌∙◌, ⊎_elim, inl}
use Rattle.std.proofs.lemmas.Bool.{cond-true, cond-false}
use Rattle.vt_chars.specs.Utf8.{UnfinishedBegins}
use Rattle.vt_units.proofs.Bases.{base_some, unfinished_some}
use Rattle.vt_units.proofs.Bytewise.{Becomes, rest_with_byte_st}
use Rattle.vt_units.proofs.Opens.{IsSome}
use Rattle.vt_units.proofs.Piecewise.{walk}
use Rattle.vt_units.specs.Answer.{RestBefore, goes_on, unbroken_rest, rest_before, rest_before_by, byte_outcome}
use Rattle.vt_units.specs.Laws.{AreAlike, CharactersEnd, SequencesEnd, StringsEnd}
use Rattle.vt_units.specs.Pieces.{HasEffect, after_controls, controls_of, rest_with, text_of}
use Rattle.vt_units.specs.Reading.{Reading, sequence, command, unfinished, whole, dropped, none, reading}
use Rattle.vt_units.specs.Rest.{Rest, fresh}
use Rattle.vt_units.specs.Run.{Effects, Reached, make_reached, run, step}
use Rattle.vt_units.specs.Units.{IsUnfinished}
use Rattle.vt_units.specs.declared.mode.Mode.{Mode}
use Rattle.vt_units.specs.declared.read.Read.{Read}

pub any_cut : {S : Type 0} (e : Effects S) (a b : List ℕ) (at : Reached S)
    → run e (a ++ b) at ≡ run e b (run e a at)
any_cut e [] b at = refl
any_cut e (x ∷ a) b at = any_cut e a b (step e x at)

-- a piece from where no text is
module _ {S : Type 0} (e : Effects S) (law : UnfinishedBegins) where
  effect-by : (now : Reading) (controls : List ℕ) (left : Rest) (after : Reached S) (s : S) (m : Mode) (w : List ℕ)
      → (IsSome now → Becomes e now after (after_controls e controls s) m w left) → HasEffect e now controls left after s
  effect-by (whole u) controls left after s m w becomes = becomes tt
  effect-by dropped controls left after s m w becomes = becomes tt
  effect-by (unfinished k) controls left after s m w becomes = (becomes tt).0
  effect-by none controls left after s m w becomes = tt

  pub piece_acts : (bytes : List ℕ) (s : S) (rest : Rest) → rest.text ≡ []
      → HasEffect e (reading (e.mode_of s) (text_of (e.mode_of s) [] bytes)) (controls_of (e.mode_of s) [] bytes)
      (rest_with e s (fresh (e.mode_of s)) bytes) (run e bytes (make_reached s rest)) s
  piece_acts bytes s rest nothing =
      effect-by (reading (e.mode_of s) (text_of (e.mode_of s) [] bytes)) (controls_of (e.mode_of s) [] bytes)
      (rest_with e s (fresh (e.mode_of s)) bytes)
      (run e bytes (make_reached s rest)) s (e.mode_of s) (text_of (e.mode_of s) [] bytes)
      (walk e law bytes (e.mode_of s) s rest [] (inl (refl, nothing, refl)))

  pub piece_resumes : (bytes : List ℕ) (s : S) (rest : Rest) → IsUnfinished rest.mode rest.text
      → HasEffect e (reading rest.mode (text_of rest.mode rest.text bytes)) (controls_of rest.mode rest.text bytes)
      (rest_with e s rest bytes) (run e bytes (make_reached s rest)) s
  piece_resumes bytes s rest (k, is) =
      effect-by (reading rest.mode (text_of rest.mode rest.text bytes)) (controls_of rest.mode rest.text bytes)
      (rest_with e s rest bytes)
      (run e bytes (make_reached s rest)) s rest.mode (text_of rest.mode rest.text bytes)
      (λ some. subst (λ left. Becomes e (reading rest.mode (text_of rest.mode rest.text bytes)) (run e bytes (make_reached s rest))
      (after_controls e (controls_of rest.mode rest.text bytes) s) rest.mode (text_of rest.mode rest.text bytes) (rest_with e s left bytes))
      (base_some rest rest.mode rest.text (unfinished_some rest.mode rest.text k is))
      (walk e law bytes rest.mode s rest rest.text (rest_with_byte_st e s rest.mode rest.text k is) some))

-- what a byte comes to, by what is left before it
abbrev answer_of : RestBefore → ℕ → Read
answer_of s b = record { bad = s.bad; got = (byte_outcome s.rest b).got }

pub characters_end : CharactersEnd
characters_end old m b is next =
    let left : rest_before old m b ≡ record { bad = true; rest = fresh m } =
    ap (λ r. rest_before_by r old m b) is ∙ cond-false _ _ _ (ap goes_on next) in
    (ap (λ s. answer_of s b) left, ap (λ (s : RestBefore). (byte_outcome s.rest b).rest) left)

alike : (old other : Rest) (m : Mode) (b : ℕ) → rest_before old m b ≡ rest_before other m b → AreAlike old other m b
alike old other m b left = (ap (λ s. answer_of s b) left, ap (λ (s : RestBefore). (byte_outcome s.rest b).rest) left)

pub sequences_end : SequencesEnd
sequences_end old m b is breaks = alike old (fresh m) m b (⊎_elim
    (λ (one : reading old.mode old.text ≡ unfinished sequence).
    ap (λ r. rest_before_by r old m b) one ∙ ap unbroken_rest (cond-true _ _ _ breaks))
    (λ (one : reading old.mode old.text ≡ unfinished command).
    ap (λ r. rest_before_by r old m b) one ∙ ap unbroken_rest (cond-true _ _ _ breaks))
    is)

pub strings_end : StringsEnd
strings_end old m b is other =
    alike old (record { mode = old.mode; text = 0x1B ∷ [] }) m b
    (ap (λ r. rest_before_by r old m b) is ∙ ap unbroken_rest (cond-false _ _ _ other))
