-- No event changes the size of new screens.
use Rattle.std.proofs.Common.{◌≡◌, ℕ, true, List, [], ◌∷◌, refl, ap, ◌∙◌}
use Rattle.std.specs.List.{list_all}
use Rattle.vt_world.proofs.for_laws.Kept.{deeds_keep, unmarked}
use Rattle.vt_world.proofs.for_laws.Steps.{by_step}
use Rattle.vt_world.specs.Deeds.{Deed, OwnDeed, Starts, apply_deeds}
use Rattle.vt_world.specs.Heard.{without_marks}
use Rattle.vt_world.specs.Events.{row}
use Rattle.vt_world.specs.State.{WorldState}
use Rattle.vt_world.specs.Step.{Outcome}
use Rattle.vt_world.specs.StepLaws.{SizesStay}

abbrev size : WorldState → ℕ × ℕ
size w = (w.rows, w.cols)

own : (w : WorldState) (deed : OwnDeed) → size (unmarked w deed) ≡ size w
own w (Starts n) = refl
own w deed = refl

any : (deeds : List Deed) → list_all (λ deed. true) deeds ≡ true
any [] = refl
any (deed ∷ deeds) = any deeds

all : (w : WorldState) (deeds : List Deed) → size (apply_deeds w deeds) ≡ size w
all w deeds = deeds_keep (λ deed. true) (λ w v. size v ≡ size w)
    (record {
      itself = λ w. refl;
      then = λ u v w first second. second ∙ first;
      marked = λ w m. refl;
      shown = λ w display. refl;
      own = λ w deed any. own w deed;
    })
    w deeds (any deeds)

pub sizes_stay : SizesStay
sizes_stay w p e =
    by_step
    (λ (deeds : List Deed) (after : Outcome).
    (after.world.rows ≡ w.rows) × (after.world.cols ≡ w.cols))
    w p e (λ errno. (refl, refl))
    (λ accepted.
    let kept : size (apply_deeds (without_marks w) (row (without_marks w) p e).deeds) ≡ size w =
    all (without_marks w) (row (without_marks w) p e).deeds in
    (ap (λ (s : ℕ × ℕ). s.0) kept, ap (λ (s : ℕ × ℕ). s.1) kept))
