-- A listener that hears two lists in turn hears the joined list.
use Rattle.std.proofs.Common.{List, [], ◌∷◌, ◌++◌, subst}
use Rattle.vt_screen.specs.Hearing.{HearsAll}
use Rattle.vt_canvas.specs.declared.out.Out.{Out}

pub hears_both : {L : Type 0} (hears : L → Out → L → Type 0) (a b c : L) (first second : List Out)
    → HearsAll hears a first b → HearsAll hears b second c → HearsAll hears a (first ++ second) c
hears_both hears a b c [] second none then =
    subst (λ l. HearsAll hears l second c) none then
hears_both hears a b c (out ∷ first) second some then =
    (some.0, some.1, hears_both hears some.0 b c first second some.2 then)
