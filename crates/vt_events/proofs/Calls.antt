-- Calls by their kinds, numbers and bytes.
use Rattle.std.proofs.Common.{◌≡◌, ℕ, Bool, true, cond, Option, Some, None, is_some, List, [], ◌∷◌, length, find, get_or, map, Contains, refl, sym, ap, ◌∙◌, arith}
use Rattle.std.specs.List.{position_or_len, range_with_len}
use Rattle.std.specs.Option.{unwrap_or}
use Rattle.std.specs.Str.{bytes_eq}
use Rattle.std.proofs.Math.Seq.{ext_get_or}
use Rattle.std.proofs.lemmas.Bool.{eqb-true, ltb-true}
use Rattle.std.proofs.lemmas.List.FromFn.{get_or-map-range_with_len, length-map-range_with_len}
use Rattle.std.proofs.lemmas.Option.{same_Some}
use Rattle.vt_events.specs.Calls.{PartsView, bytes_of, held_of, kind_of, numbers_of, parts_of}
use Rattle.vt_events.specs.Kinds.{blank, call_of, name_of, takes}
use Rattle.vt_events.specs.Plain.{plain_event}
use Rattle.vt_events.specs.declared.event.Event.{Event}
use Rattle.vt_events.specs.declared.event.Event.TheVariants as event
use Rattle.vt_events.specs.declared.kind.Kind.{Kind}
use Rattle.vt_events.specs.declared.kind.Kind.TheVariants as kind

-- whether a call holds bytes
abbrev pub holds : Event → Bool
holds e = is_some (held_of e)

-- bytes, if they are held
abbrev pub held_if : Bool → List ℕ → Option (List ℕ)
held_if holds bytes = cond holds (Some bytes) None

pub held-if : (e : Event) → held_of e ≡ held_if (holds e) (bytes_of e)
held-if event.Exit = refl
held-if e = refl

-- all kinds; `dev/gen/call_lists.py` writes this list and the next lemma
abbrev kinds : List Kind
kinds =
    kind.Scan ∷ kind.Exit ∷ kind.OpenCon ∷ kind.CloseFd ∷ kind.Write ∷ kind.ReadIn ∷
    kind.WaitInput ∷ kind.WaitActive ∷ kind.WaitSignal ∷ kind.WaitEnd ∷ kind.Activate ∷
    kind.Disallocate ∷ kind.OpenQry ∷ kind.GetState ∷ kind.Resize ∷ kind.LockSwitch ∷
    kind.UnlockSwitch ∷ kind.SetKd ∷ kind.GetKd ∷ kind.SetMode ∷ kind.GetMode ∷ kind.RelDisp ∷
    kind.SetKb ∷ kind.GetKb ∷ kind.SetMeta ∷ kind.GetMeta ∷ kind.SetLed ∷ kind.GetLed ∷
    kind.SetFlags ∷ kind.GetFlags ∷ kind.SetEntry ∷ kind.GetEntry ∷ kind.SetFunc ∷ kind.GetFunc ∷
    kind.SetDia ∷ kind.GetDia ∷ kind.SetCode ∷ kind.GetCode ∷ kind.Accept ∷ kind.SetMap ∷
    kind.GetMap ∷ kind.SetPal ∷ kind.GetPal ∷ kind.Dump ∷ kind.TakeSignals ∷ kind.Kill ∷ []

-- whether a name is that of a kind
abbrev is_named : List ℕ → Kind → Bool
is_named name k = bytes_eq (name_of k) name

pub each_kind : (k : Kind) → Contains kinds k
each_kind kind.Scan = (0, ltb-true 0 46 refl, refl)
each_kind k = (position_or_len (is_named (name_of k)) kinds, ltb-true _ 46 refl, refl)

-- the kind of a name
abbrev named : List ℕ → Option Kind
named name = find (is_named name) kinds

named-name_of : (k : Kind) → named (name_of k) ≡ Some k
named-name_of kind.Scan = refl
named-name_of k = refl

-- a name is that of one kind
pub kind_once : (j k : Kind) → name_of j ≡ name_of k → j ≡ k
kind_once j k same = same_Some j k (sym (named-name_of j) ∙ ap named same ∙ named-name_of k)

-- a call without the room of its bytes has the same parts
pub parts-plain : (e : Event) → parts_of (plain_event e) ≡ parts_of e
parts-plain event.Exit = refl
parts-plain e = refl

-- the call of these parts
abbrev pub call_of_parts : PartsView → Event
call_of_parts parts = call_of parts.kind parts.numbers (unwrap_or parts.held [])

-- two calls without room and with the same parts are the same
pub same_call : (d e : Event) → plain_event d ≡ d → plain_event e ≡ e → kind_of d ≡ kind_of e
    → numbers_of d ≡ numbers_of e → held_of d ≡ held_of e → d ≡ e
same_call d e plain_d plain_e kinds numbers held =
    sym plain_d ∙ (λ j. call_of (kinds j) (numbers j) (unwrap_or (held j) [])) ∙ plain_e

-- a call has as many numbers as its kind, holds bytes if its kind does, and as many as its kind takes
pub record IsOfKind (k : Kind) (e : Event) : Type 0 where
  pub many : length (numbers_of e) ≡ length (numbers_of (blank k))
  pub holds : holds e ≡ holds (blank k)
  pub takes : takes k (length (bytes_of e)) ≡ true

pub of_kind : (e : Event) → IsOfKind (kind_of e) e
of_kind event.Exit = record { many = refl; holds = refl; takes = refl }
of_kind e = record { many = refl; holds = refl; takes = refl }

-- a kind that holds no bytes takes any number of them
pub takes_held : (k : Kind) (b : List ℕ)
    → takes k (length (unwrap_or (held_if (holds (blank k)) b) [])) ≡ takes k (length b)
takes_held kind.Scan b = refl
takes_held k b = refl

-- a call of a kind has these numbers, holds these bytes if its kind holds any, and has no room
pub record IsMade (k : Kind) (n b : List ℕ) (e : Event) : Type 0 where
  pub kind : kind_of e ≡ k
  pub numbers : numbers_of e ≡ n
  pub held : held_of e ≡ held_if (holds (blank k)) b
  pub plain : plain_event e ≡ e

-- a list is that of its elements
one_by_one : (n : List ℕ) → map (λ i. get_or n i 0) (range_with_len 0 (length n)) ≡ n
one_by_one n =
    let each = λ (i : ℕ). get_or n i 0 in
    ext_get_or 0 (map each (range_with_len 0 (length n))) n
    (length-map-range_with_len each 0 (length n))
    (λ i within.
    get_or-map-range_with_len each 0 (length n) i i 0
    (omega (arith, within, length-map-range_with_len each 0 (length n))) (omega arith))

-- the numbers of a call, one by one
numbers_call : (k : Kind) (n b : List ℕ)
    → numbers_of (call_of k n b)
    ≡ map (λ i. get_or n i 0) (range_with_len 0 (length (numbers_of (blank k))))
numbers_call kind.Scan n b = refl
numbers_call k n b = refl

-- its bytes
held_call : (k : Kind) (n b : List ℕ) → takes k (length b) ≡ true
    → held_of (call_of k n b) ≡ held_if (holds (blank k)) b
held_call kind.Scan n [] few = cc
held_call kind.Scan n (x ∷ []) few = refl
held_call kind.Scan n (x ∷ y ∷ b) few =
    absurd (omega (arith, eqb-true (length (x ∷ y ∷ b)) 1 few))
held_call k n b few = refl

kind-call : (k : Kind) (n b : List ℕ)
    → (kind_of (call_of k n b) ≡ k) × (plain_event (call_of k n b) ≡ call_of k n b)
kind-call kind.Scan n b = (refl, refl)
kind-call k n b = (refl, refl)

pub is_made : (k : Kind) (n b : List ℕ) → length n ≡ length (numbers_of (blank k))
    → takes k (length b) ≡ true → IsMade k n b (call_of k n b)
is_made k n b many few = record {
  kind = (kind-call k n b).0;
  numbers =
      numbers_call k n b
      ∙ ap (λ len. map (λ i. get_or n i 0) (range_with_len 0 len)) (sym many)
      ∙ one_by_one n;
  held = held_call k n b few;
  plain = (kind-call k n b).1;
}
