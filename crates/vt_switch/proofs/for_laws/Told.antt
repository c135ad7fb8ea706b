-- The news of an act's trace: one at most.
use Rattle.std.proofs.Common.{◌≡◌, ◌≤◌, ℕ, Bool, true, false, cond, List, [], ◌∷◌, ◌++◌, length, Option, Some, None, refl, sym, ap, subst, ◌∙◌, lit≤}
use Rattle.std.proofs.lemmas.Bool.{false≢true}
use Rattle.vt_switch.specs.Acts.{SwitchAct, Allocate, Request, Release, SetMode, SetKd, Lock, Free, End, hop_of, hop_of_asked}
use Rattle.vt_switch.specs.Calls.{request_outcome}
use Rattle.vt_switch.specs.Display.{console, is_allocated}
use Rattle.vt_switch.specs.Moments.{Core, core_after, hop_marks, is_live, is_request, marks, raise_acquire, raise_release}
use Rattle.vt_switch.specs.News.{News, Going, OneNewsIsTold, news}
use Rattle.vt_switch.specs.declared.asked.Asked.{Asked}
use Rattle.vt_switch.specs.declared.asked.Asked.TheVariants.{Hopped, Signalled, Ignored}
use Rattle.vt_switch.specs.declared.handling.Handling.{Handling}
use Rattle.vt_switch.specs.declared.handling.Handling.TheVariants.{Auto, Process}
use Rattle.vt_switch.specs.declared.hop.Hop.{Hop}
use Rattle.vt_switch.specs.declared.mark.Mark.{Mark}
use Rattle.vt_switch.specs.declared.mark.Mark.TheVariants as mark

-- what a hop tells
abbrev pub going : Option Hop → List News
going None = []
going (Some hop) = Going hop ∷ []

alone_tells : (b : Bool) (p signal : ℕ) → news (cond b (mark.Raised p signal ∷ []) []) ≡ []
alone_tells true p signal = refl
alone_tells false p signal = refl

acquired_tells : (k : Core) (handling : Handling) → news (raise_acquire k handling) ≡ []
acquired_tells k (Auto words) = refl
acquired_tells k (Process handshake) =
    alone_tells (is_live k handshake.owner) handshake.owner handshake.acqsig

hop_tells : (k : Core) (hop : Option Hop) → news (hop_marks k hop) ≡ going hop
hop_tells k None = refl
hop_tells k (Some hop) =
    ap (λ (more : List News). Going hop ∷ more) (acquired_tells k (console k.display hop.to).handling)

-- an act that asks for nothing tells its hop
pub quiet_tells : (k : Core) (act : SwitchAct) → is_request act ≡ false
    → news (marks k act) ≡ going (hop_of k.display act)
quiet_tells k (Allocate n) isnt = refl
quiet_tells k (Request n) isnt = absurd (false≢true (sym isnt))
quiet_tells k (Release c p arg) isnt =
    hop_tells (core_after k (Release c p arg)) (hop_of k.display (Release c p arg))
quiet_tells k (SetMode c p m) isnt = refl
quiet_tells k (SetKd c graphics) isnt = refl
quiet_tells k (Lock on) isnt = refl
quiet_tells k (Free n) isnt = refl
quiet_tells k (End p) isnt = hop_tells (core_after k (End p)) (hop_of k.display (End p))

abbrev request_marks : Core → Core → Bool → ℕ → Asked → List Mark
request_marks k after there n a =
    cond there (mark.Asked n ∷ raise_release k a) [] ++ hop_marks after (hop_of_asked a)

-- a request that is ignored tells nothing
ignored_if : (k after : Core) (there : Bool) (n : ℕ)
    → news (request_marks k after there n Ignored) ≡ []
ignored_if k after true n = refl
ignored_if k after false n = refl

pub ignored_tells : (k : Core) (n : ℕ) → request_outcome k.display n ≡ Ignored
    → news (marks k (Request n)) ≡ []
ignored_tells k n is =
    let after : Core = core_after k (Request n) in
    ap (λ (a : Asked). news (request_marks k after (is_allocated k.display n) n a)) is
    ∙ ignored_if k after (is_allocated k.display n) n

one_going : (hop : Option Hop) → length (going hop) ≤ 1
one_going None = lit≤ tt
one_going (Some hop) = lit≤ tt

one_hop : (k : Core) (hop : Option Hop) → length (news (hop_marks k hop)) ≤ 1
one_hop k hop =
    subst (λ (list : List News). length list ≤ 1) (sym (hop_tells k hop)) (one_going hop)

one_asked : (live : Bool) (n owner signal : ℕ)
    → length (news (mark.Asked n ∷ (cond live (mark.Raised owner signal ∷ []) [] ++ []))) ≤ 1
one_asked true n owner signal = lit≤ tt
one_asked false n owner signal = lit≤ tt

one_request : (k after : Core) (there : Bool) (n : ℕ) (a : Asked)
    → length (news (request_marks k after there n a)) ≤ 1
one_request k after true n (Hopped hop) = one_hop after (Some hop)
one_request k after true n (Signalled owner signal) =
    one_asked (is_live k owner) n owner signal
one_request k after true n Ignored = lit≤ tt
one_request k after false n a = one_hop after (hop_of_asked a)

one_quiet : (k : Core) (act : SwitchAct) → is_request act ≡ false
    → length (news (marks k act)) ≤ 1
one_quiet k act isnt =
    subst (λ (list : List News). length list ≤ 1) (sym (quiet_tells k act isnt))
    (one_going (hop_of k.display act))

pub one_news_is_told : OneNewsIsTold
one_news_is_told k (Request n) =
    one_request k (core_after k (Request n)) (is_allocated k.display n) n (request_outcome k.display n)
one_news_is_told k (Allocate n) = one_quiet k (Allocate n) refl
one_news_is_told k (Release c p arg) = one_quiet k (Release c p arg) refl
one_news_is_told k (SetMode c p m) = one_quiet k (SetMode c p m) refl
one_news_is_told k (SetKd c graphics) = one_quiet k (SetKd c graphics) refl
one_news_is_told k (Lock on) = one_quiet k (Lock on) refl
one_news_is_told k (Free n) = one_quiet k (Free n) refl
one_news_is_told k (End p) = one_quiet k (End p) refl
