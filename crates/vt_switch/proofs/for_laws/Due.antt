-- In every display a hop is due to the act that makes it.
use Rattle.std.proofs.Common.{◌≡◌, ℕ, Bool, true, false, cond, Option, Some, None, Ok, Err, refl, sym, ap, ◌∙◌}
use Rattle.std.specs.Prelude.{◌==◌, ◌||◌, not, IfSome}
use Rattle.std.proofs.lemmas.Bool.{eqb-true}
use Rattle.vt_switch.proofs.Lookups.{named}
use Rattle.vt_switch.specs.Acts.{Allocate, Request, Release, SetMode, SetKd, Lock, Free, End, hop_of_asked, hop_of_released}
use Rattle.vt_switch.specs.Calls.{asked_of, inval, drop_pending, let_go, owns}
use Rattle.vt_switch.specs.Deaths.{falls_to}
use Rattle.vt_switch.specs.Display.{Display, console, is_allocated, owner_of}
use Rattle.vt_switch.specs.Law.{HopsAreDue, IsDue, IsLetGo}
use Rattle.vt_switch.specs.declared.asked.Asked.TheVariants.{Ignored}
use Rattle.vt_switch.specs.declared.handling.Handling.{Handling}
use Rattle.vt_switch.specs.declared.handling.Handling.TheVariants.{Auto, Process}

-- a hop at a request
asked_due : (d : Display) (n : ℕ) (none front locked graphics : Bool) (handling : Handling)
    → d.locked ≡ locked → (console d d.front).graphics ≡ graphics
    → (console d d.front).handling ≡ handling
    → IfSome (hop_of_asked (cond (none || front || locked) Ignored (asked_of d n graphics handling)))
    (IsDue d (Request n))
asked_due d n true front locked graphics handling is shows handles = tt
asked_due d n false true locked graphics handling is shows handles = tt
asked_due d n false false true graphics handling is shows handles = tt
asked_due d n false false false graphics (Process handshake) is shows handles = tt
asked_due d n false false false true (Auto words) is shows handles = tt
asked_due d n false false false false (Auto words) is shows handles =
    record { from = refl; because = (ap owner_of handles, shows, is) }

let_go_by : (d : Display) (p n : ℕ) → owns d p d.front ≡ true → d.pending ≡ Some n
    → IsLetGo d d.front p n
let_go_by d p n mine waits =
    record { owner = named p (owner_of (console d d.front).handling) mine; waits = waits }

-- a hop at a release
released_due : (d : Display) (c p arg : ℕ) (mine keeps goes knows here : Bool) (waits : Option ℕ)
    → owns d p c ≡ mine → (arg == 1) ≡ goes → (c == d.front) ≡ here → d.pending ≡ waits
    → IfSome
    (hop_of_released
    (cond (not mine) (Err inval) (cond keeps (drop_pending (cond here waits None))
    (cond goes (let_go d p (cond here waits None)) (cond knows (Ok None) (Err inval))))))
    (IsDue d (Release c p arg))
released_due d c p arg false keeps goes knows here waits owned one front pend = tt
released_due d c p arg true true goes knows true None owned one front pend = tt
released_due d c p arg true true goes knows true (Some n) owned one front pend = tt
released_due d c p arg true true goes knows false waits owned one front pend = tt
released_due d c p arg true false true knows false waits owned one front pend = tt
released_due d c p arg true false true knows true None owned one front pend = tt
released_due d c p arg true false true knows true (Some n) owned one front pend =
    let at : c ≡ d.front = eqb-true c d.front front in
    let lets : arg ≡ 1 = eqb-true arg 1 one in
    record {
      from = refl;
      because = (
        (λ i. Release (at i) p (lets i)),
        let_go_by d p n (sym (ap (λ a. owns d p a) at) ∙ owned) pend,
      );
    }
released_due d c p arg true false false true here waits owned one front pend = tt
released_due d c p arg true false false false here waits owned one front pend = tt

-- a hop at an end
ended_due : (d : Display) (p : ℕ) (mine : Bool) (waits : Option ℕ)
    → owns d p d.front ≡ mine → d.pending ≡ waits
    → IfSome (cond mine (falls_to d p waits) None) (IsDue d (End p))
ended_due d p false waits owned pend = tt
ended_due d p true None owned pend = tt
ended_due d p true (Some n) owned pend =
    record { from = refl; because = (refl, let_go_by d p n owned pend) }

pub hops_are_due : HopsAreDue
hops_are_due d (Allocate n) = tt
hops_are_due d (Request n) =
    asked_due d n (not (is_allocated d n)) (n == d.front) d.locked (console d d.front).graphics
    (console d d.front).handling refl refl refl
hops_are_due d (Release c p arg) =
    released_due d c p arg (owns d p c) (arg == 0) (arg == 1) (arg == 2) (c == d.front) d.pending
    refl refl refl refl
hops_are_due d (SetMode c p m) = tt
hops_are_due d (SetKd c graphics) = tt
hops_are_due d (Lock on) = tt
hops_are_due d (Free n) = tt
hops_are_due d (End p) = ended_due d p (owns d p d.front) d.pending refl refl
