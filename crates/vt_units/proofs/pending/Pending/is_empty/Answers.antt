use Rattle.std.proofs.Common.{◌≡◌, ◌==◌, ℕ, List, [], ◌∷◌, false, length, refl, sym, ap, subst, ◌∙◌}
use Rattle.std.proofs.lemmas.Bool.{false≢true}
use Rattle.vt_units.proofs.Rests.{stands_unfinished}
use Rattle.vt_units.specs.Reading.{is_empty}
use Rattle.vt_units.specs.Rest.{Rest}
use Rattle.vt_units.specs.Units.{IsUnfinished}
use Rattle.vt_units.proofs.pending.Pending.is_empty.Goals as goal

some : (text : List ℕ) → (length text == 0) ≡ false → is_empty text ≡ false
some [] is = absurd (false≢true (sym is))
some (b ∷ text) is = refl

pub returns-clause-unfinished : goal.returns-clause-unfinished
returns-clause-unfinished c = λ is.
    subst (λ (old : Rest). IsUnfinished old.mode old.text) c.self.view_is
    (stands_unfinished c.self.inside.stage c.self.inside.mode c.self.inside.text c.as_slice.ensures.bound
    (some c.self.inside.text
    (ap (λ (t : List ℕ). length t == 0) (sym c.as_slice.ensures.bytes) ∙ sym c.is_empty.ensures ∙ is))
    c.self.invariant)
