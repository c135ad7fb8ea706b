-- A process that made no call may have had its rights from the start.
use Rattle.std.proofs.Common.{◌≡◌, ◌≢◌, ◌≤◌, ◌<◌, ◌+◌, ◌-◌, ℕ, zero, suc, Bool, true, false, cond, ◌==◌, arith, List, [], ◌∷◌, set, map, length, take, Option, Some, refl, sym, ap, ◌∙◌, subst}
use Rattle.std.proofs.lemmas.Bool.{eq-eqb, ne_eqb, le-ltb}
use Rattle.std.proofs.lemmas.List.Sums.{sum_by-cons, sum_by-take-le}
use Rattle.std.proofs.lemmas.Option.{none-some, same_Some}
use Rattle.std.specs.List.{range_with_len}
use Rattle.std.specs.Prelude.{count_by, slice_get, nat_lt, if◌then◌else◌}
use Rattle.vt_events.specs.declared.entry.Entry.{Entry}
use Rattle.vt_procs.specs.Callers.{caller_at_start, caller_of, callers_of, keyboard}
use Rattle.vt_procs.specs.Rights.{with_rights}
use Rattle.vt_procs.specs.declared.proc_start.ProcStart.{ProcStart}
use Rattle.vt_procs.specs.declared.process.Process.{Process}
use Rattle.vt_world.specs.History.{IsLegal, IsNext, replay}
use Rattle.vt_world.specs.Rights.{AdmissionsAreStarts, AdmissionsComeFirst, admitted}
use Rattle.vt_world.specs.Start.{start_world}
use Rattle.vt_world.specs.State.{WorldState}
use Rattle.vt_world.specs.Step.{Outcome, step}
use Rattle.vt_world.proofs.for_laws.Rights.{alter, rights_are_own}

abbrev calls_by : ℕ → List Entry → ℕ
calls_by p entries = count_by (λ entry. entry.caller == p) entries

abbrev one_if : Bool → ℕ
one_if b = cond b 1 0

-- the first of the entries isn't of p, and none of the others is
other_first : (p : ℕ) (e : Entry) (es : List Entry) → calls_by p (e ∷ es) ≡ 0 → (e.caller ≢ p) × (calls_by p es ≡ 0)
other_first p e es none =
    let parts : one_if (e.caller == p) + calls_by p es ≡ 0 =
    sym (sum_by-cons (λ (x : Entry). one_if (x.caller == p)) e es) ∙ none in (
      λ same.
          let one : one_if (e.caller == p) ≡ one_if true = ap one_if (eq-eqb e.caller p same) in
          let no : ⊥ = omega (arith, one, parts) in no,
      omega (arith, parts),
    )

taken_none : (p k : ℕ) (es : List Entry) → calls_by p es ≡ 0 → calls_by p (take k es) ≡ 0
taken_none p k es none =
    let few : calls_by p (take k es) ≤ calls_by p es = sum_by-take-le (λ (x : Entry). one_if (x.caller == p)) es k in
    omega (arith, few, none)

at_other : (p k : ℕ) (es : List Entry) (entry : Entry) → calls_by p es ≡ 0 → slice_get es k ≡ Some entry
    → entry.caller ≢ p
at_other p k [] entry none is = absurd (none-some entry is)
at_other p zero (e ∷ es) entry none is =
    λ same. (other_first p e es none).0 (ap (λ (x : Entry). x.caller) (same_Some e entry is) ∙ same)
at_other p (suc k) (e ∷ es) entry none is = at_other p k es entry (other_first p e es none).1 is

module _ (p : ℕ) (r : ProcStart) where
  replay_moved : (entries : List Entry) (w : WorldState) → calls_by p entries ≡ 0
      → replay (admitted p r w) entries ≡ admitted p r (replay w entries)
  replay_moved [] w none = refl
  replay_moved (e ∷ es) w none =
      let it = other_first p e es none in
      ap (λ (o : Outcome). replay o.world es) (rights_are_own p r w e.caller e.event it.0)
      ∙ replay_moved es (step w e.caller e.event).world it.1

  legal_moved : (start : WorldState) (entries : List Entry) → IsLegal start entries → calls_by p entries ≡ 0
      → IsLegal (admitted p r start) entries
  legal_moved start entries legal none k entry is =
      let next : IsNext start (take k entries) entry = legal k entry is in
      let before : WorldState = replay start (take k entries) in record {
        answer = next.answer
            ∙ sym (ap (λ (w : WorldState). (step w entry.caller entry.event).reply)
            (replay_moved (take k entries) start (taken_none p k entries none))
            ∙ ap (λ (o : Outcome). o.reply)
            (rights_are_own p r before entry.caller entry.event (at_other p k entries entry none is)));
        number = next.number;
      }

pub admissions_come_first : AdmissionsComeFirst
admissions_come_first p r start entries legal silent = record {
  legal = legal_moved p r start entries legal silent;
  world = replay_moved p r entries start silent;
}

-- lists of callers that differ at one place
module _ (f g : ℕ → Process) (h : Process → Process) (p : ℕ) (here : g p ≡ h (f p))
    (elsewhere : (k : ℕ) → k ≢ p → g k ≡ f k) where
  above : (n at : ℕ) → p < at → map g (range_with_len at n) ≡ map f (range_with_len at n)
  above zero at low = refl
  above (suc n) at low =
      λ i. elsewhere at (λ same. absurd (let no : ⊥ = omega (arith, low, same) in no)) i
      ∷ above n (at + 1) (omega (arith, low)) i

  pub changed : (n at j : ℕ) → at + j ≡ p
      → map g (range_with_len at n) ≡ alter h j (map f (range_with_len at n))
  changed zero at j is = refl
  changed (suc n) at zero is =
      let same : at ≡ p = omega (arith, is) in
      λ i. subst (λ k. g k ≡ h (f k)) (sym same) here i ∷ above n (at + 1) (omega (arith, same)) i
  changed (suc n) at (suc j) is =
      λ i. elsewhere at (λ same. absurd (let no : ⊥ = omega (arith, is, same) in no)) i
      ∷ changed n (at + 1) j (omega (arith, is)) i

set_here : (l : List ProcStart) (i : ℕ) (r : ProcStart) → i < length l → slice_get (set l i r) i ≡ Some r
set_here [] i r low = absurd (let no : ⊥ = omega (arith, low) in no)
set_here (x ∷ l) zero r low = refl
set_here (x ∷ l) (suc i) r low = set_here l i r (omega (arith, low))

set_there : (l : List ProcStart) (i k : ℕ) (r : ProcStart) → k ≢ i → slice_get (set l i r) k ≡ slice_get l k
set_there [] i k r other = refl
set_there (x ∷ l) zero zero r other = absurd (other refl)
set_there (x ∷ l) zero (suc k) r other = refl
set_there (x ∷ l) (suc i) zero r other = refl
set_there (x ∷ l) (suc i) (suc k) r other = set_there l i k r (λ same. other (ap suc same))

has_there : (l : List ProcStart) (i : ℕ) → i < length l → (x : ProcStart) × (slice_get l i ≡ Some x)
has_there [] i low = absurd (let no : ⊥ = omega (arith, low) in no)
has_there (x ∷ l) zero low = (x, refl)
has_there (x ∷ l) (suc i) low = has_there l i (omega (arith, low))

module _ (keyboards : ℕ) (starts : List ProcStart) (p : ℕ) (r : ProcStart) (low : 1 ≤ p)
    (listed : p ≤ length starts) (few : length starts ≤ 64) where
  abbrev other_starts : List ProcStart
  other_starts = set starts (p - 1) r

  -- the caller at the start is the one of the list
  is_listed : (list : List ProcStart) (k : ℕ) → 1 ≤ k → k ≤ 64
      → caller_at_start keyboards list k ≡ caller_of (slice_get list (k - 1))
  is_listed list k one most =
      let first : (k == 0) ≡ false = ne_eqb k 0 (λ same. absurd (let no : ⊥ = omega (arith, one, same) in no)) in
      let process : nat_lt 64 k ≡ false = le-ltb 64 k most in
      rw (first, process) refl

  here : caller_at_start keyboards other_starts p ≡ with_rights r (caller_at_start keyboards starts p)
  here =
      let within : p - 1 < length starts = omega (arith, low, listed) in
      let old = has_there starts (p - 1) within in
      is_listed other_starts p low (omega (arith, listed, few))
      ∙ ap caller_of (set_here starts (p - 1) r within)
      ∙ sym (ap (λ x. with_rights r (caller_of x)) old.1)
      ∙ sym (ap (with_rights r) (is_listed starts p low (omega (arith, listed, few))))

  elsewhere : (k : ℕ) → k ≢ p → caller_at_start keyboards other_starts k ≡ caller_at_start keyboards starts k
  elsewhere zero other = refl
  elsewhere (suc k) other =
      ap
      (λ (x : Option ProcStart). if suc k == 0 then keyboard keyboards 0
      else if nat_lt 64 (suc k) then keyboard keyboards (suc k - 64) else caller_of x)
      (set_there starts (p - 1) (suc k - 1) r (λ same. other (omega (arith, same, low))))

  pub callers_changed : (callers_of keyboards other_starts).list
      ≡ alter (with_rights r) p (callers_of keyboards starts).list
  callers_changed =
      changed (caller_at_start keyboards starts) (caller_at_start keyboards other_starts) (with_rights r) p here
      elsewhere 68 0 p (omega arith)

pub admissions_are_starts : AdmissionsAreStarts
admissions_are_starts rows cols consoles front keyboards processes tables p r low listed few =
    let w : WorldState = start_world rows cols consoles front keyboards processes tables in
    ap (λ (l : List Process). record w { callers = record w.callers { list = l } })
    (callers_changed keyboards processes p r low listed few)
