-- The side effects that a listener hears.
use Rattle.std.specs.Prelude.{◌≡◌, List, [], ◌∷◌}
use Rattle.vt_canvas.specs.declared.out.Out.{Out}

-- the listener hears these side effects and no others, in order: each from the state that the one before it
-- left
abbrev pub HearsAll : {L : Type 0} → (L → Out → L → Type 0) → L → List Out → L → Type 0
HearsAll hears old [] new = new ≡ old
HearsAll {L} hears old (out ∷ outs) new =
    (between : L) × hears old out between × HearsAll hears between outs new
