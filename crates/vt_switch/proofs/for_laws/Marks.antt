-- The hops of a trace are the one that its act makes.
use Rattle.std.proofs.Common.{◌≡◌, ℕ, Bool, true, false, cond, List, [], ◌∷◌, ◌++◌, Option, Some, None, refl, ap, ◌∙◌}
use Rattle.std.specs.Prelude.{option_to_list}
use Rattle.vt_switch.specs.Acts.{SwitchAct, Allocate, Request, Release, SetMode, SetKd, Lock, Free, End, hop_of}
use Rattle.vt_switch.specs.Calls.{request_outcome}
use Rattle.vt_switch.specs.Display.{console, is_allocated}
use Rattle.vt_switch.specs.Moments.{Core, core_after, hop_marks, hops, is_live, own_marks, raise_acquire, raise_release}
use Rattle.vt_switch.specs.News.{OneHopIsTold}
use Rattle.vt_switch.specs.declared.asked.Asked.{Asked}
use Rattle.vt_switch.specs.declared.asked.Asked.TheVariants.{Hopped, Signalled, Ignored}
use Rattle.vt_switch.specs.declared.handling.Handling.{Handling}
use Rattle.vt_switch.specs.declared.handling.Handling.TheVariants.{Auto, Process}
use Rattle.vt_switch.specs.declared.hop.Hop.{Hop}
use Rattle.vt_switch.specs.declared.mark.Mark.{Mark}
use Rattle.vt_switch.specs.declared.mark.Mark.TheVariants as mark

raised_if : (b : Bool) (p signal : ℕ) (more : List Mark)
    → hops (cond b (mark.Raised p signal ∷ []) [] ++ more) ≡ hops more
raised_if true p signal more = refl
raised_if false p signal more = refl

released_quiet : (k : Core) (a : Asked) (more : List Mark)
    → hops (raise_release k a ++ more) ≡ hops more
released_quiet k (Hopped hop) more = refl
released_quiet k (Signalled owner signal) more = raised_if (is_live k owner) owner signal more
released_quiet k Ignored more = refl

asked_if : (b : Bool) (n : ℕ) (k : Core) (a : Asked) (more : List Mark)
    → hops (cond b (mark.Asked n ∷ raise_release k a) [] ++ more) ≡ hops more
asked_if true n k a more = released_quiet k a more
asked_if false n k a more = refl

own_quiet : (k : Core) (act : SwitchAct) (more : List Mark)
    → hops (own_marks k act ++ more) ≡ hops more
own_quiet k (Allocate n) more = refl
own_quiet k (Request n) more =
    asked_if (is_allocated k.display n) n k (request_outcome k.display n) more
own_quiet k (Release c p arg) more = refl
own_quiet k (SetMode c p m) more = refl
own_quiet k (SetKd c graphics) more = refl
own_quiet k (Lock on) more = refl
own_quiet k (Free n) more = refl
own_quiet k (End p) more = refl

alone_quiet : (b : Bool) (p signal : ℕ) → hops (cond b (mark.Raised p signal ∷ []) []) ≡ []
alone_quiet true p signal = refl
alone_quiet false p signal = refl

acquired_quiet : (k : Core) (handling : Handling) → hops (raise_acquire k handling) ≡ []
acquired_quiet k (Auto words) = refl
acquired_quiet k (Process handshake) =
    alone_quiet (is_live k handshake.owner) handshake.owner handshake.acqsig

hop_told : (k : Core) (hop : Option Hop) → hops (hop_marks k hop) ≡ option_to_list hop
hop_told k None = refl
hop_told k (Some hop) =
    ap (λ (more : List Hop). hop ∷ more) (acquired_quiet k (console k.display hop.to).handling)

pub hops_of_marks : OneHopIsTold
hops_of_marks k act =
    own_quiet k act (hop_marks (core_after k act) (hop_of k.display act))
    ∙ hop_told (core_after k act) (hop_of k.display act)
