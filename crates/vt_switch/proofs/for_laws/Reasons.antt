-- The reason of a hop, and the display after a request.
use Rattle.std.proofs.Common.{◌≡◌, ℕ, ◌+◌, ◌≤◌, Bool, true, false, cond, List, [], ◌∷◌, ◌++◌, Option, Some, None, refl, sym, ap, subst, ◌∙◌, inl, inr, arith}
use Rattle.std.specs.Prelude.{◌==◌, ◌||◌, not, IfSome, option_to_list}
use Rattle.std.proofs.lemmas.Option.{none-some, same_Some}
use Rattle.vt_switch.proofs.for_laws.Due.{hops_are_due}
use Rattle.vt_switch.proofs.for_laws.Marks.{hops_of_marks}
use Rattle.vt_switch.proofs.for_laws.Stays.{Stays, stays}
use Rattle.vt_switch.proofs.for_laws.Told.{going, ignored_tells, quiet_tells}
use Rattle.vt_switch.specs.Acts.{SwitchAct, Request, hop_of, hop_of_asked}
use Rattle.vt_switch.specs.Calls.{after_asked, request_outcome, asked_of}
use Rattle.vt_switch.specs.Display.{Display, console, is_allocated, owner_of}
use Rattle.vt_switch.specs.Law.{AllowedBy, DueBy, EachAllowed, Handed, IsDue, IsExplained, IsLetGo, OwnersLive, Quiet, Raises, Since, WasAskedFor, release_of}
use Rattle.vt_switch.specs.Moments.{Core, Moment, core_after, hop_marks, hops, is_live, is_request, raise_release, settles, trace}
use Rattle.vt_switch.specs.declared.asked.Asked.{Asked}
use Rattle.vt_switch.specs.declared.asked.Asked.TheVariants.{Hopped, Signalled, Ignored}
use Rattle.vt_switch.specs.declared.cause.Cause.{Cause}
use Rattle.vt_switch.specs.declared.cause.Cause.TheVariants as cause
use Rattle.vt_switch.specs.declared.handling.Handling.{Handling}
use Rattle.vt_switch.specs.declared.handling.Handling.TheVariants.{Auto, Process}
use Rattle.vt_switch.specs.declared.hop.Hop.{Hop}
use Rattle.vt_switch.specs.declared.mark.Mark.TheVariants as mark

-- what was in an entry before the i-th was in one before the j-th
pub since_more : (i j a p n : ℕ) (h : List Moment) → i ≤ j → Since (Quiet a n) (Raises i a p n) h
    → Since (Quiet a n) (Raises j a p n) h
since_more i j a p n [] more since = elim since [ ]
since_more i j a p n (m ∷ h) more (inl raises) = inl (record {
  earlier = omega (arith, more, raises.earlier);
  in_front = raises.in_front;
  signal = raises.signal;
  handled = raises.handled;
  raised = raises.raised;
  target = raises.target;
})
since_more i j a p n (m ∷ h) more (inr (quiet, since)) =
    inr (quiet, since_more i j a p n h more since)

abbrev pub moment : ℕ → Core → SwitchAct → Moment
moment e k act = record { entry = e; before = k; act = act }

-- an act that asks for nothing leaves the reasons of what waits
pub carry : (i e : ℕ) (k : Core) (h : List Moment) (act : SwitchAct) → is_request act ≡ false
    → IsExplained i k h → IsExplained i (core_after k act) (moment e k act ∷ h)
carry i e k h act isnt explained n waits =
    let s : Stays k act n = stays k act n isnt waits in
    let w : WasAskedFor i k h n = explained n s.waits in
    let m : Moment = moment e k act in
    let quiet : Quiet k.display.front n m = record {
      no_mode = s.no_mode;
      no_refusal = s.no_refusal;
      no_news = quiet_tells k act isnt ∙ ap going s.no_hop;
      target = waits;
    } in
    record {
      owner = w.owner;
      owned = ap (λ a. owner_of (console (core_after k act).display a).handling) s.front
          ∙ s.owner ∙ w.owned;
      asked = subst (λ a. Since (Quiet a n) (Raises i a w.owner n) (m ∷ h)) (sym s.front)
          (inr (quiet, w.asked));
    }

-- the signal that an answer tells of
abbrev signalled : Asked → Option (ℕ × ℕ)
signalled (Hopped hop) = None
signalled (Signalled owner signal) = Some (owner, signal)
signalled Ignored = None

asks_owner : (d : Display) (n : ℕ) (graphics : Bool) (handling : Handling)
    → signalled (asked_of d n graphics handling) ≡ release_of handling
asks_owner d n true (Auto words) = refl
asks_owner d n false (Auto words) = refl
asks_owner d n graphics (Process handshake) = refl

pub record Asks (d : Display) (n owner signal : ℕ) : Type 0 where
  pub there : is_allocated d n ≡ true
  pub handled : release_of (console d d.front).handling ≡ Some (owner, signal)

abbrev first_of : Option (ℕ × ℕ) → Option ℕ
first_of None = None
first_of (Some pair) = Some pair.0

abbrev pair : ℕ → ℕ → Option (ℕ × ℕ)
pair o s = Some (o, s)

none_pair : {X : Type 0} (o s : ℕ) → None ≡ pair o s → X
none_pair o s same = absurd (none-some o (ap first_of same))

by_tests : (d : Display) (n owner signal : ℕ) (there front locked : Bool)
    → is_allocated d n ≡ there
    → cond (not there || front || locked) Ignored
    (asked_of d n (console d d.front).graphics (console d d.front).handling)
    ≡ Signalled owner signal
    → Asks d n owner signal
by_tests d n owner signal false front locked is same = none_pair owner signal (ap signalled same)
by_tests d n owner signal true true locked is same = none_pair owner signal (ap signalled same)
by_tests d n owner signal true false true is same = none_pair owner signal (ap signalled same)
by_tests d n owner signal true false false is same = record {
  there = is;
  handled = sym (asks_owner d n (console d d.front).graphics (console d d.front).handling)
      ∙ ap signalled same;
}

owner_asked : (handling : Handling) (owner signal : ℕ)
    → release_of handling ≡ Some (owner, signal) → owner_of handling ≡ Some owner
owner_asked (Auto words) owner signal is = none_pair owner signal is
owner_asked (Process handshake) owner signal is = ap first_of is

-- the trace of a request that raised a signal
raised_trace : (e : ℕ) (k : Core) (n owner signal : ℕ) → is_allocated k.display n ≡ true
    → request_outcome k.display n ≡ Signalled owner signal → is_live k owner ≡ true
    → trace (moment e k (Request n)) ≡ mark.Asked n ∷ mark.Raised owner signal ∷ []
raised_trace e k n owner signal there is lives =
    let after : Core = core_after k (Request n) in
    ap
    (λ (b : Bool). cond b (mark.Asked n ∷ raise_release k (request_outcome k.display n)) []
    ++ hop_marks after (hop_of_asked (request_outcome k.display n)))
    there
    ∙ ap (λ (a : Asked). (mark.Asked n ∷ raise_release k a) ++ hop_marks after (hop_of_asked a)) is
    ∙ ap (λ (b : Bool). mark.Asked n ∷ (cond b (mark.Raised owner signal ∷ []) [] ++ [])) lives

-- what a request leaves, by its answer
ask_by : (i e : ℕ) (k : Core) (h : List Moment) (n : ℕ) (a : Asked) → request_outcome k.display n ≡ a
    → i ≤ e + 1 → OwnersLive k → IsExplained i k h → (w : ℕ)
    → (core_after k (Request n)).display.pending ≡ Some w
    → WasAskedFor (e + 1) (core_after k (Request n)) (moment e k (Request n) ∷ h) w
ask_by i e k h n (Hopped hop) is more owners explained w waits =
    absurd (none-some w (sym (ap (λ (a : Asked). (after_asked k.display n a).pending) is) ∙ waits))
ask_by i e k h n Ignored is more owners explained w waits =
    let d = k.display in
    let m : Moment = moment e k (Request n) in
    let same : (core_after k (Request n)).display ≡ d =
    ap (λ (a : Asked). after_asked d n a) is in
    let before : WasAskedFor i k h w = explained w (sym (ap (λ (x : Display). x.pending) same) ∙ waits) in
    let quiet : Quiet d.front w m = record {
      no_mode = refl;
      no_refusal = refl;
      no_news = ignored_tells k n is;
      target = waits;
    } in
    record {
      owner = before.owner;
      owned = ap (λ (x : Display). owner_of (console x x.front).handling) same ∙ before.owned;
      asked = subst
          (λ (x : Display). Since (Quiet x.front w) (Raises (e + 1) x.front before.owner w) (m ∷ h))
          (sym same)
          (inr (quiet, since_more i (e + 1) d.front before.owner w h more before.asked));
    }
ask_by i e k h n (Signalled owner signal) is more owners explained w waits =
    let d = k.display in
    let m : Moment = moment e k (Request n) in
    let left_is : (core_after k (Request n)).display ≡ record d { pending = Some n } =
    ap (λ (a : Asked). after_asked d n a) is in
    let target : n ≡ w =
    same_Some n w (sym (ap (λ (x : Display). x.pending) left_is) ∙ waits) in
    let asks : Asks d n owner signal =
    by_tests d n owner signal (is_allocated d n) (n == d.front) d.locked refl is in
    let owned : owner_of (console d d.front).handling ≡ Some owner =
    owner_asked (console d d.front).handling owner signal asks.handled in
    let raises : Raises (e + 1) d.front owner w m = record {
      earlier = omega arith;
      in_front = refl;
      signal = signal;
      handled = asks.handled;
      raised = raised_trace e k n owner signal asks.there is (owners d.front owner owned)
          ∙ ap (λ (x : ℕ). mark.Asked x ∷ mark.Raised owner signal ∷ []) target;
      target = waits;
    } in
    record {
      owner = owner;
      owned = ap (λ (x : Display). owner_of (console x x.front).handling) left_is ∙ owned;
      asked = subst (λ (x : Display). Since (Quiet x.front w) (Raises (e + 1) x.front owner w) (m ∷ h))
          (sym left_is) (inl raises);
    }

pub ask : (i e : ℕ) (k : Core) (h : List Moment) (n : ℕ) → i ≤ e + 1 → OwnersLive k
    → IsExplained i k h → IsExplained (e + 1) (core_after k (Request n)) (moment e k (Request n) ∷ h)
ask i e k h n more owners explained w waits =
    ask_by i e k h n (request_outcome k.display n) refl more owners explained w waits

-- the owner had been asked
handed : (m : Moment) (h : List Moment) (p n : ℕ) → IsExplained m.entry m.before h
    → IsLetGo m.before.display m.before.display.front p n
    → Handed h m m.before.display.front p n
handed m h p n explained goes =
    let d : Display = m.before.display in
    let w : WasAskedFor m.entry m.before h n = explained n goes.waits in
    record {
      owner = goes.owner;
      waits = goes.waits;
      asked = subst (λ owner. Since (Quiet d.front n) (Raises m.entry d.front owner n) h)
          (same_Some w.owner p (sym w.owned ∙ goes.owner)) w.asked;
    }

-- a hop that is due was allowed, where what waits is explained before a release or an end
because : (m : Moment) (h : List Moment) (n : ℕ) (cause : Cause)
    → (settles m.act ≡ true → IsExplained m.entry m.before h)
    → DueBy m.before.display m.act m.before.display.front n cause
    → AllowedBy h m m.before.display.front n cause
because m h n cause.Free explained due = due
because m h n (cause.Released p) explained due =
    (due.0, handed m h p n (explained (ap settles due.0)) due.1)
because m h n (cause.Died p) explained due =
    (due.0, handed m h p n (explained (ap settles due.0)) due.1)

by_hop : (m : Moment) (h : List Moment) (hop : Option Hop)
    → (settles m.act ≡ true → IsExplained m.entry m.before h)
    → IfSome hop (IsDue m.before.display m.act) → EachAllowed h m (option_to_list hop)
by_hop m h None explained due = tt
by_hop m h (Some hop) explained due = (
  record {
    from = due.from;
    because = subst (λ a. AllowedBy h m a hop.to hop.cause) (sym due.from)
        (because m h hop.to hop.cause explained
        (subst (λ a. DueBy m.before.display m.act a hop.to hop.cause) due.from due.because));
  },
  tt,
)

pub allowed : (e : ℕ) (k : Core) (h : List Moment) (act : SwitchAct)
    → (settles act ≡ true → IsExplained e k h)
    → EachAllowed h (moment e k act) (hops (trace (moment e k act)))
allowed e k h act explained =
    subst (EachAllowed h (moment e k act)) (sym (hops_of_marks k act))
    (by_hop (moment e k act) h (hop_of k.display act) explained (hops_are_due k.display act))
