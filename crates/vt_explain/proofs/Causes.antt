-- The cause of a switch is the last request to its owner.
use Rattle.std.proofs.Common.{◌≡◌, inl, inr, ⊎_elim, ℕ, List, [], ◌∷◌, ◌++◌, length, map, Option, Some, None, refl, sym, ap, subst, ◌∙◌, append-nil}
use Rattle.std.specs.Prelude.{IfSome, option_to_list, slice_get}
use Rattle.std.proofs.lemmas.Option.{none-some}
use Rattle.vt_explain.proofs.Places.{get_last, get_left}
use Rattle.vt_explain.specs.Certificates.{AsksAt, IsCause, WasAsked}
use Rattle.vt_explain.specs.Finding.{cause_of, hear_all, known_after}
use Rattle.vt_explain.specs.Hops.{TimedHop, at_time, timed_hops}
use Rattle.vt_explain.specs.declared.hop_cause.HopCause.{HopCause}
use Rattle.vt_explain.specs.declared.hop_cause.HopCause.TheVariants as why
use Rattle.vt_explain.specs.declared.last_ask.LastAsk.{LastAsk}
use Rattle.vt_switch.specs.Acts.{hop_of}
use Rattle.vt_switch.specs.Law.{AllowedBy, DueBy, EachAllowed, Handed, HopsAreDue, IsDue, IsLawful, IsLetGo, Quiet, Raises, Since}
use Rattle.vt_switch.specs.Moments.{Moment, hops, trace}
use Rattle.vt_switch.specs.News.{News, OneHopIsTold, news}
use Rattle.vt_switch.specs.declared.cause.Cause.{Cause}
use Rattle.vt_switch.specs.declared.cause.Cause.TheVariants as cause
use Rattle.vt_switch.specs.declared.hop.Hop.{Hop}
use Rattle.vt_switch.specs.declared.mark.Mark.{Mark}
use Rattle.vt_world.proofs.Histories.{at_either}

abbrev ask_in : ℕ → ℕ → Option LastAsk
ask_in entry signal = Some (record { entry = entry; signal = signal })

-- an owner that was asked, with all quiet since, was asked last
last_is : (i a p n asked signal : ℕ) (h : List Moment)
    → Since (Quiet a n) (AsksAt i a p n asked signal) h → (known_after h).last ≡ ask_in asked signal
last_is i a p n asked signal [] since = elim since [ ]
last_is i a p n asked signal (m ∷ h) (inl asks) =
    ap (λ (marked : List Mark). (hear_all m.entry (news marked) (known_after h)).last) asks.raises.raised
    ∙ (λ j. ask_in (asks.entry j) (asks.by j))
last_is i a p n asked signal (m ∷ h) (inr (quiet, since)) =
    ap (λ (told : List News). (hear_all m.entry told (known_after h)).last) quiet.no_news
    ∙ last_is i a p n asked signal h since

-- the cause that an item names is the one that is found
pub cause_is : (h : TimedHop) (c : Cause) (w : HopCause) → IsCause h c w
    → w ≡ cause_of c (known_after h.earlier).last
cause_is h cause.Free why.Free is = refl
cause_is h (cause.Released p) (why.Released owner asked signal) is =
    (λ j. why.Released (is.0 j) asked signal)
    ∙ ap (cause_of (cause.Released p))
    (sym (last_is h.moment.entry h.hop.from p h.hop.to asked signal h.earlier is.1))
cause_is h (cause.Died p) (why.Died owner asked signal) is =
    (λ j. why.Died (is.0 j) asked signal)
    ∙ ap (cause_of (cause.Died p))
    (sym (last_is h.moment.entry h.hop.from p h.hop.to asked signal h.earlier is.1))
cause_is h cause.Free (why.Released owner asked signal) is = absurd is
cause_is h cause.Free (why.Died owner asked signal) is = absurd is
cause_is h (cause.Released p) why.Free is = absurd is
cause_is h (cause.Released p) (why.Died owner asked signal) is = absurd is
cause_is h (cause.Died p) why.Free is = absurd is
cause_is h (cause.Died p) (why.Released owner asked signal) is = absurd is

-- the cause that is found is that of the switch
abbrev pub HasCause : TimedHop → Type 0
HasCause h = IsCause h h.hop.cause (cause_of h.hop.cause (known_after h.earlier).last)

record FoundAsk (i a p n : ℕ) (h : List Moment) : Type 0 where
  asked : ℕ
  signal : ℕ
  since : Since (Quiet a n) (AsksAt i a p n asked signal) h

find_ask : (i a p n : ℕ) (h : List Moment) → Since (Quiet a n) (Raises i a p n) h
    → FoundAsk i a p n h
find_ask i a p n [] since = elim since [ ]
find_ask i a p n (m ∷ h) (inl raises) = record {
  asked = m.entry;
  signal = raises.signal;
  since = inl (record { raises = raises; entry = refl; by = refl });
}
find_ask i a p n (m ∷ h) (inr (quiet, since)) =
    let found : FoundAsk i a p n h = find_ask i a p n h since in
    record { asked = found.asked; signal = found.signal; since = inr (quiet, found.since) }

lose_ask : (i a p n asked signal : ℕ) (h : List Moment)
    → Since (Quiet a n) (AsksAt i a p n asked signal) h → Since (Quiet a n) (Raises i a p n) h
lose_ask i a p n asked signal [] since = elim since [ ]
lose_ask i a p n asked signal (m ∷ h) (inl asks) = inl asks.raises
lose_ask i a p n asked signal (m ∷ h) (inr (quiet, since)) =
    inr (quiet, lose_ask i a p n asked signal h since)

allowed_cause : (earlier : List Moment) (m : Moment) (hop : Hop) (c : Cause)
    → AllowedBy earlier m hop.from hop.to c
    → IsCause (at_time earlier m hop) c (cause_of c (known_after earlier).last)
allowed_cause earlier m hop cause.Free because = tt
allowed_cause earlier m hop (cause.Released p) because =
    let found : FoundAsk m.entry hop.from p hop.to earlier =
    find_ask m.entry hop.from p hop.to earlier because.1.asked in
    subst
    (λ last. IsCause (at_time earlier m hop) (cause.Released p) (cause_of (cause.Released p) last))
    (sym (last_is m.entry hop.from p hop.to found.asked found.signal earlier found.since))
    (refl, found.since)
allowed_cause earlier m hop (cause.Died p) because =
    let found : FoundAsk m.entry hop.from p hop.to earlier =
    find_ask m.entry hop.from p hop.to earlier because.1.asked in
    subst
    (λ last. IsCause (at_time earlier m hop) (cause.Died p) (cause_of (cause.Died p) last))
    (sym (last_is m.entry hop.from p hop.to found.asked found.signal earlier found.since))
    (refl, found.since)

-- the switches of a history, of which the last act made one or none
abbrev with_hop : List Moment → Moment → List Hop → List TimedHop
with_hop earlier m list = timed_hops earlier ++ map (at_time earlier m) list

allowed_hop : (m : Moment) (earlier : List Moment) (o : Option Hop)
    → EachAllowed earlier m (option_to_list o)
    → ((k : ℕ) (h : TimedHop) → slice_get (timed_hops earlier) k ≡ Some h → HasCause h)
    → (k : ℕ) (h : TimedHop) → slice_get (with_hop earlier m (option_to_list o)) k ≡ Some h
    → HasCause h
allowed_hop m earlier None allowed before k h is =
    before k h
    (subst (λ (list : List TimedHop). slice_get list k ≡ Some h) (append-nil (timed_hops earlier)) is)
allowed_hop m earlier (Some hop) allowed before k h is = ⊎_elim
    (λ old. before k h old)
    (λ new.
    subst (λ (g : TimedHop). IsCause g g.hop.cause (cause_of g.hop.cause (known_after g.earlier).last)) new.1
    (allowed_cause earlier m hop hop.cause allowed.0.because))
    (at_either (timed_hops earlier) (at_time earlier m hop) k h is)

-- in a lawful history each switch has its cause
pub causes : OneHopIsTold → (history : List Moment) → IsLawful history → (k : ℕ) (h : TimedHop)
    → slice_get (timed_hops history) k ≡ Some h → HasCause h
causes law [] lawful k h is = absurd (none-some h is)
causes law (m ∷ earlier) lawful k h is =
    let one : hops (trace m) ≡ option_to_list (hop_of m.before.display m.act) = law m.before m.act in
    allowed_hop m earlier (hop_of m.before.display m.act)
    (subst (EachAllowed earlier m) one lawful.0) (causes law earlier lawful.1) k h
    (subst (λ (list : List Hop). slice_get (with_hop earlier m list) k ≡ Some h) one is)

-- each switch has some cause
abbrev pub SomeCause : TimedHop → Type 0
SomeCause h = (w : HopCause) × IsCause h h.hop.cause w

handed : (earlier : List Moment) (m : Moment) (hop : Hop) (p asked signal : ℕ)
    → IsLetGo m.before.display hop.from p hop.to
    → WasAsked (at_time earlier m hop) p asked signal → Handed earlier m hop.from p hop.to
handed earlier m hop p asked signal goes was = record {
  owner = goes.owner;
  waits = goes.waits;
  asked = lose_ask m.entry hop.from p hop.to asked signal earlier was;
}

because : (earlier : List Moment) (m : Moment) (hop : Hop) (c : Cause) (w : HopCause)
    → DueBy m.before.display m.act hop.from hop.to c → IsCause (at_time earlier m hop) c w
    → AllowedBy earlier m hop.from hop.to c
because earlier m hop cause.Free w due is = due
because earlier m hop (cause.Released p) (why.Released owner asked signal) due is =
    (due.0, handed earlier m hop p asked signal due.1 is.1)
because earlier m hop (cause.Died p) (why.Died owner asked signal) due is =
    (due.0, handed earlier m hop p asked signal due.1 is.1)
because earlier m hop (cause.Released p) why.Free due is = absurd is
because earlier m hop (cause.Released p) (why.Died owner asked signal) due is = absurd is
because earlier m hop (cause.Died p) why.Free due is = absurd is
because earlier m hop (cause.Died p) (why.Released owner asked signal) due is = absurd is

explained_hop : (m : Moment) (earlier : List Moment) (o : Option Hop)
    → IfSome o (IsDue m.before.display m.act)
    → ((k : ℕ) (h : TimedHop) → slice_get (with_hop earlier m (option_to_list o)) k ≡ Some h
    → SomeCause h)
    → EachAllowed earlier m (option_to_list o)
explained_hop m earlier None due some = tt
explained_hop m earlier (Some hop) due some =
    let has : SomeCause (at_time earlier m hop) =
    some (length (timed_hops earlier)) (at_time earlier m hop)
    (get_last (timed_hops earlier) (at_time earlier m hop)) in
    (record { from = due.from; because = because earlier m hop hop.cause has.0 due.because has.1 }, tt)

-- if each switch has some cause, the history is lawful
pub lawful : HopsAreDue → OneHopIsTold → (history : List Moment)
    → ((k : ℕ) (h : TimedHop) → slice_get (timed_hops history) k ≡ Some h → SomeCause h)
    → IsLawful history
lawful due law [] some = tt
lawful due law (m ∷ earlier) some =
    let hop : Option Hop = hop_of m.before.display m.act in
    let one : hops (trace m) ≡ option_to_list hop = law m.before m.act in (
      subst (EachAllowed earlier m) (sym one)
          (explained_hop m earlier hop (due m.before.display m.act)
          (λ k h is.
          some k h
          (subst (λ (list : List Hop). slice_get (with_hop earlier m list) k ≡ Some h) (sym one) is))),
      lawful due law earlier
          (λ k h is.
          some k h (get_left (timed_hops earlier) (map (at_time earlier m) (hops (trace m))) k h is)),
    )
