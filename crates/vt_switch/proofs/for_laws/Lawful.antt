-- The display law, entry by entry.
use Rattle.std.proofs.Common.{◌≡◌, ℕ, ◌+◌, ◌≤◌, Bool, true, false, List, [], ◌∷◌, None, refl, sym, ◌∙◌, arith}
use Rattle.std.specs.Prelude.{◌&&◌, ◌||◌, not, length}
use Rattle.std.proofs.lemmas.Bool.{and_parts, false≢true}
use Rattle.std.proofs.lemmas.Option.{none-some}
use Rattle.vt_switch.proofs.for_laws.Owners.{owners_live}
use Rattle.vt_switch.proofs.for_laws.Reasons.{allowed, ask, carry, moment, since_more}
use Rattle.vt_switch.specs.Acts.{SwitchAct, Allocate, Request, Release, SetMode, SetKd, Lock, Free, End}
use Rattle.vt_switch.specs.Law.{AllOrdered, DisplayLaw, IsExplained, IsLawful, OwnersLive, OwnersStayLive, TargetLaw, WasAskedFor}
use Rattle.vt_switch.specs.Moments.{Core, Moment, after_entries, all_after, core_after, history, is_ordered, is_request, settles, with_acts}

-- between two acts: what waits is explained, owners live, and every hop so far was allowed
record Good (i : ℕ) (k : Core) (h : List Moment) : Type 0 where
  explained : IsExplained i k h
  owners : OwnersLive k
  lawful : IsLawful h

-- the entry that an explanation is older than: the present one, until it asks for something
abbrev bound : Bool → ℕ → ℕ
bound true e = e + 1
bound false e = e

explained_more : (i j : ℕ) (k : Core) (h : List Moment) → i ≤ j → IsExplained i k h → IsExplained j k h
explained_more i j k h more explained n waits =
    let w : WasAskedFor i k h n = explained n waits in
    record {
      owner = w.owner;
      owned = w.owned;
      asked = since_more i j k.display.front w.owner n h more w.asked;
    }

bound_within : (asked : Bool) (e : ℕ) → bound asked e ≤ e + 1
bound_within true e = omega arith
bound_within false e = omega arith

-- a request
by_request : (i e : ℕ) (k : Core) (h : List Moment) (act : SwitchAct) → is_request act ≡ true
    → i ≤ e + 1 → OwnersLive k → IsExplained i k h
    → IsExplained (e + 1) (core_after k act) (moment e k act ∷ h)
by_request i e k h (Allocate n) does more owners explained = absurd (false≢true does)
by_request i e k h (Request n) does more owners explained = ask i e k h n more owners explained
by_request i e k h (Release c p arg) does more owners explained = absurd (false≢true does)
by_request i e k h (SetMode c p m) does more owners explained = absurd (false≢true does)
by_request i e k h (SetKd c graphics) does more owners explained = absurd (false≢true does)
by_request i e k h (Lock on) does more owners explained = absurd (false≢true does)
by_request i e k h (Free n) does more owners explained = absurd (false≢true does)
by_request i e k h (End p) does more owners explained = absurd (false≢true does)

explain : (e : ℕ) (asked request : Bool) (k : Core) (h : List Moment) (act : SwitchAct)
    → is_request act ≡ request → OwnersLive k → IsExplained (bound asked e) k h
    → IsExplained (bound (asked || request) e) (core_after k act) (moment e k act ∷ h)
explain e true true k h act is owners explained =
    by_request (e + 1) e k h act is (omega arith) owners explained
explain e false true k h act is owners explained =
    by_request e e k h act is (omega arith) owners explained
explain e true false k h act is owners explained = carry (e + 1) e k h act is explained
explain e false false k h act is owners explained = carry e e k h act is explained

-- in order, nothing was asked before a release or an end
before : (e : ℕ) (asked settle : Bool) (k : Core) (h : List Moment)
    → not (asked && settle) ≡ true → IsExplained (bound asked e) k h → settle ≡ true
    → IsExplained e k h
before e true true k h ordered explained does = absurd (false≢true ordered)
before e true false k h ordered explained does = absurd (false≢true does)
before e false settle k h ordered explained does = explained

step : (e : ℕ) (asked : Bool) (k : Core) (h : List Moment) (act : SwitchAct)
    → not (asked && settles act) ≡ true → Good (bound asked e) k h
    → Good (bound (asked || is_request act) e) (core_after k act) (moment e k act ∷ h)
step e asked k h act ordered good = record {
  explained = explain e asked (is_request act) k h act refl good.owners good.explained;
  owners = owners_live k act good.owners;
  lawful = (
    allowed e k h act (before e asked (settles act) k h ordered good.explained),
    good.lawful,
  );
}

entry : (e : ℕ) (asked : Bool) (k : Core) (acts : List SwitchAct) (h : List Moment)
    → is_ordered asked acts ≡ true → Good (bound asked e) k h
    → Good (e + 1) (all_after k acts) (with_acts e k acts h)
entry e asked k [] h ordered good = record {
  explained = explained_more (bound asked e) (e + 1) k h (bound_within asked e) good.explained;
  owners = good.owners;
  lawful = good.lawful;
}
entry e asked k (act ∷ acts) h ordered good =
    let rest = is_ordered (asked || is_request act) acts in
    entry e (asked || is_request act) (core_after k act) acts (moment e k act ∷ h)
    ((and_parts (not (asked && settles act)) rest ordered).1)
    (step e asked k h act ((and_parts (not (asked && settles act)) rest ordered).0) good)

entries : (i : ℕ) (k : Core) (list : List (List SwitchAct)) (h : List Moment) → AllOrdered list
    → Good i k h → Good (i + length list) (after_entries k list) (history i k list h)
entries i k [] h ordered good = record {
  explained = explained_more i (i + length {A = List SwitchAct} []) k h (omega arith) good.explained;
  owners = good.owners;
  lawful = good.lawful;
}
entries i k (acts ∷ list) h ordered good =
    let after : Core = after_entries (all_after k acts) list in
    let more : List Moment = history (i + 1) (all_after k acts) list (with_acts i k acts h) in
    let all : Good (i + 1 + length list) after more =
    entries (i + 1) (all_after k acts) list (with_acts i k acts h) ordered.1
    (entry i false k acts h ordered.0 good) in
    record {
      explained = explained_more (i + 1 + length list) (i + length (acts ∷ list)) after more
          (omega arith) all.explained;
      owners = all.owners;
      lawful = all.lawful;
    }

from_nothing : (k : Core) (list : List (List SwitchAct)) → OwnersLive k → k.display.pending ≡ None
    → AllOrdered list → Good (0 + length list) (after_entries k list) (history 0 k list [])
from_nothing k list owners none ordered =
    entries 0 k list [] ordered
    (record {
      explained = λ n waits. absurd (none-some n (sym none ∙ waits));
      owners = owners;
      lawful = tt;
    })

pub display_law : DisplayLaw
display_law k list owners none ordered = (from_nothing k list owners none ordered).lawful

pub target_law : TargetLaw
target_law k list owners none ordered =
    explained_more (0 + length list) (length list) (after_entries k list) (history 0 k list [])
    (omega arith) (from_nothing k list owners none ordered).explained

acts_live : (k : Core) (acts : List SwitchAct) → OwnersLive k → OwnersLive (all_after k acts)
acts_live k [] owners = owners
acts_live k (act ∷ acts) owners = acts_live (core_after k act) acts (owners_live k act owners)

pub owners_stay_live : OwnersStayLive
owners_stay_live k [] owners = owners
owners_stay_live k (acts ∷ list) owners =
    owners_stay_live (all_after k acts) list (acts_live k acts owners)
