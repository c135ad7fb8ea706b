-- How far the callers are before the first entry, and after one entry more.
use Rattle.std.proofs.Common.{◌≡◌, ℕ, ◌+◌, ◌-◌, ◌^◌, ◌≤◌, ◌<◌, min, Bool, ⊎_elim, arith, cond, List, [], ◌∷◌, ◌++◌, length, get_or, set, map, filter, replicate, Option, Some, refl, sym, ap, ◌∙◌, subst, append-nil}
use Rattle.std.proofs.lemmas.Bool.{cases_eq, eq-eqb, ne_eqb}
use Rattle.std.proofs.lemmas.Bool.Decides.{eqb_tells}
use Rattle.std.proofs.lemmas.List.{get_or-replicate, get_or-set_same, get_or-set_other, length-replicate, length-set, map-append}
use Rattle.std.proofs.lemmas.List.Elements.{filter-append}
use Rattle.std.proofs.lemmas.List.Sums.{count_by-le-length, sum_by-append}
use Rattle.std.proofs.lemmas.Option.{same_Some}
use Rattle.std.specs.List.{All}
use Rattle.std.specs.Prelude.{◌==◌, count_by}
use Rattle.session_order.specs.Calls.{as_meant, call_of, calls_by, next_by, next_of}
use Rattle.session_order.specs.Meant.{NextIsMeant}
use Rattle.session_order.specs.Standing.{AreAfter, SessionProgressView, IsWalkAfter}
use Rattle.session_text.specs.Programs.{Call, call, next, program_of}
use Rattle.session_text.specs.Walks.{Place, Stands}
use Rattle.session_text.specs.declared.program.Program.{Program}
use Rattle.vt_base.specs.Limits.{callers}
use Rattle.vt_events.specs.Plain.{plain_event, plain_reply}
use Rattle.vt_events.specs.declared.entry.Entry.{Entry}
use Rattle.vt_events.specs.declared.event.Event.{Event}
use Rattle.vt_events.specs.declared.reply.Reply.{Reply}
use Rattle.vt_events.proofs.Meant.{plain-twice}

-- an entry of p is one more call of it, and none of another
pub calls_mine : (h : List Entry) (entry : Entry) (q : ℕ) → entry.caller ≡ q
    → calls_by q (h ++ entry ∷ []) ≡ calls_by q h ++ call_of entry ∷ []
calls_mine h entry q mine =
    ap (map call_of) (filter-append (λ (x : Entry). x.caller == q) h (entry ∷ [])
    ∙ ap (λ b. filter (λ (x : Entry). x.caller == q) h ++ cond b (entry ∷ []) []) (eq-eqb entry.caller q mine))
    ∙ map-append call_of (filter (λ (x : Entry). x.caller == q) h) (entry ∷ [])

pub calls_others : (h : List Entry) (entry : Entry) (q : ℕ) → (entry.caller ≡ q → ⊥)
    → calls_by q (h ++ entry ∷ []) ≡ calls_by q h
calls_others h entry q apart =
    ap (map call_of) (filter-append (λ (x : Entry). x.caller == q) h (entry ∷ [])
    ∙ ap (λ b. filter (λ (x : Entry). x.caller == q) h ++ cond b (entry ∷ []) []) (ne_eqb entry.caller q apart))
    ∙ map-append call_of (filter (λ (x : Entry). x.caller == q) h) []
    ∙ append-nil (calls_by q h)

-- whether an entry is a call of this caller
abbrev is_by : ℕ → Entry → Bool
is_by q entry = entry.caller == q

-- one more entry is counted for its caller alone
count_more : (q : ℕ) (h : List Entry) (entry : Entry)
    → count_by (is_by q) (h ++ entry ∷ []) ≡ count_by (is_by q) h + cond (is_by q entry) 1 0
count_more q h entry =
    let added = sum_by-append (λ (e : Entry). cond (is_by q e) 1 0) h (entry ∷ []) in
    omega (arith, added)

-- the counts after one more entry of a caller
counted : (counts : List ℕ) (h : List Entry) (entry : Entry) (q : ℕ) → q ≤ 67 → entry.caller ≤ 67
    → length counts ≡ 68 → length h ≤ 1_000_000
    → ((q : ℕ) → q ≤ 67 → get_or counts q 0 ≡ count_by (is_by q) h)
    → get_or (set counts entry.caller (min (get_or counts entry.caller 0 + 1) (2 ^ 32 - 1))) q 0
    ≡ count_by (is_by q) (h ++ entry ∷ [])
counted counts h entry q within known places few old =
    let n : ℕ = get_or counts entry.caller 0 in
    let new : ℕ = min (n + 1) (2 ^ 32 - 1) in
    let number : n ≡ count_by (is_by entry.caller) h = old entry.caller known in
    let fits : new ≡ n + 1 = omega (arith, number, count_by-le-length (is_by entry.caller) h, few) in
    ⊎_elim
    (λ same.
    let read : get_or (set counts entry.caller new) q 0 ≡ new =
    subst (λ k. get_or (set counts entry.caller new) k 0 ≡ new) same.1
    (get_or-set_same counts entry.caller new 0 (omega (arith, known, places))) in
    let before : n ≡ count_by (is_by q) h = subst (λ k. n ≡ count_by (is_by k) h) same.1 number in
    let one : ◌≡◌ {A = ℕ} (cond (is_by q entry) 1 0) 1 = ap (λ b. cond b 1 0) same.0 in
    read ∙ fits ∙ omega (arith, before, one, count_more q h entry))
    (λ other.
    let none : ◌≡◌ {A = ℕ} (cond (is_by q entry) 1 0) 0 = ap (λ b. cond b 1 0) other.0 in
    get_or-set_other counts entry.caller q new 0 (λ same. other.1 (sym same))
    ∙ old q within
    ∙ omega (arith, none, count_more q h entry))
    (eqb_tells entry.caller q)

-- the facts about a walk after one more call was made
pub record Walks (program : Program) (walk moved : Place) (r : Reply) : Type 0 where
  pub took :
      (made : List Call) (e : Event) → Stands program walk made → next program made ≡ Some e
      → Stands program moved (made ++ call e r ∷ [])

-- the walk stands after one more call
pub stands_more : NextIsMeant → (program : Program) (walk moved : Place) (made : List Call) (e : Event) (r : Reply)
    → IsWalkAfter program walk made → Walks program walk moved r → next program made ≡ Some e
    → IsWalkAfter program moved (made ++ as_meant (call e r) ∷ [])
stands_more is_meant program walk moved made e r after walks next_is =
    let here : next program after.calls ≡ Some e =
    sym (is_meant program after.calls) ∙ ap (next program) after.meant ∙ next_is in
    record {
      calls = after.calls ++ call e r ∷ [];
      stands = walks.took after.calls e after.stands here;
      meant = map-append as_meant after.calls (call e r ∷ []) ∙ ap (λ m. m ++ as_meant (call e r) ∷ []) after.meant;
    }

-- its next call is the next call of its program
pub next_after : NextIsMeant → (program : Program) (walk : Place) (made : List Call) (e : Option Event)
    → IsWalkAfter program walk made
    → ((calls : List Call) → Stands program walk calls → e ≡ next program calls)
    → e ≡ next program made
next_after is_meant program walk made e after gives =
    gives after.calls after.stands
    ∙ sym (is_meant program after.calls)
    ∙ ap (next program) after.meant

-- the next call of the walk of an entry's caller
pub next-by : NextIsMeant → (programs : List Program) (h : List Entry) (p : ℕ) (program : Program) (walk : Place) (e : Option Event)
    → program_of programs p ≡ Some program → IsWalkAfter program walk (calls_by p h)
    → ((calls : List Call) → Stands program walk calls → e ≡ next program calls)
    → e ≡ next_by programs p h
next-by is_meant programs h p program walk e is after gives =
    next_after is_meant program walk (calls_by p h) e after gives
    ∙ ap (λ found. next_of found (calls_by p h)) (sym is)

-- the changes that a call of p makes
pub record Took (p : ℕ) (program : Program) (r : Reply) (before after : SessionProgressView) : Type 0 where
  pub walk : Place
  pub moved : Place
  pub known : p ≤ 67
  pub read : walk ≡ get_or before.walks p walk
  pub walks : after.walks ≡ set before.walks p moved
  pub counts : after.counts ≡ set before.counts p (min (get_or before.counts p 0 + 1) (2 ^ 32 - 1))
  pub took : Walks program walk moved r

pub taken : NextIsMeant → (programs : List Program) (h : List Entry) (entry : Entry) (p : ℕ) (program : Program) (r : Reply)
    (before after : SessionProgressView) → Took p program r before after
    → program_of programs p ≡ Some program → AreAfter programs h before → length h ≤ 1_000_000
    → entry.caller ≡ p → next_by programs p h ≡ Some (plain_event entry.event)
    → plain_reply entry.reply ≡ plain_reply r
    → AreAfter programs (h ++ entry ∷ []) after
taken is_meant programs h entry p program r before after took is at few by follows answer =
    let e : Event = plain_event entry.event in
    let next_is : next program (calls_by p h) ≡ Some e =
    ap (λ found. next_of found (calls_by p h)) (sym is) ∙ follows in
    let call_is : as_meant (call e r) ≡ call_of entry =
    λ i. call (plain-twice entry.event i) (sym answer i) in
    let within : p < length before.walks = omega (arith, took.known, at.walks) in
    let stands : IsWalkAfter program took.moved (calls_by p h ++ as_meant (call e r) ∷ []) =
    stands_more is_meant program took.walk took.moved (calls_by p h) e r
    (at.stand p program took.walk took.known is took.read) took.took next_is in
    record {
      walks = ap length took.walks ∙ length-set before.walks p took.moved ∙ at.walks;
      stand = λ q other walk known is_other read_other. ⊎_elim
          (λ mine.
          let same_program : program ≡ other =
          same_Some program other (sym is ∙ ap (program_of programs) mine ∙ is_other) in
          let same_walk : walk ≡ took.moved =
          read_other
          ∙ (λ i. get_or (took.walks i) (sym mine i) walk)
          ∙ get_or-set_same before.walks p took.moved walk within in
          let made : calls_by p h ++ as_meant (call e r) ∷ [] ≡ calls_by q (h ++ entry ∷ []) =
          ap (λ c. calls_by p h ++ c ∷ []) call_is ∙ sym (calls_mine h entry p by) ∙ ap (λ k. calls_by k (h ++ entry ∷ [])) mine in
          subst (λ m. IsWalkAfter other walk m) made
          (subst (λ w. IsWalkAfter other w (calls_by p h ++ as_meant (call e r) ∷ [])) (sym same_walk)
          (subst (λ x. IsWalkAfter x took.moved (calls_by p h ++ as_meant (call e r) ∷ [])) same_program stands)))
          (λ apart.
          let read : walk ≡ get_or before.walks q walk =
          read_other
          ∙ ap (λ ws. get_or ws q walk) took.walks
          ∙ get_or-set_other before.walks p q took.moved walk (λ same. apart (sym same)) in
          subst (IsWalkAfter other walk) (sym (calls_others h entry q (λ same. apart (sym by ∙ same)))) (at.stand q other walk known is_other read))
          (cases_eq p q);
      places = ap length took.counts ∙ length-set before.counts p _ ∙ at.places;
      counted = λ q within.
          ap (λ counts. get_or counts q 0) took.counts
          ∙ subst
          (λ k. get_or (set before.counts k (min (get_or before.counts k 0 + 1) (2 ^ 32 - 1))) q 0 ≡ count_by (is_by q) (h ++ entry ∷ []))
          by
          (counted before.counts h entry q within (omega (arith, by, took.known)) at.places few at.counted);
    }

-- before the first entry
pub first_after : (programs : List Program) (view : SessionProgressView) → length view.walks ≡ callers
    → All (λ walk. (p : Program) → Stands p walk []) view.walks → view.counts ≡ replicate 68 0
    → AreAfter programs [] view
first_after programs view many stand zero = record {
  walks = many;
  stand = λ q program walk known is read.
      let within : q < length view.walks = omega (arith, known, many) in
      record {
        calls = [];
        stands = subst (λ w. Stands program w []) (sym read) (stand q walk within program);
        meant = refl;
      };
  places = ap length zero ∙ length-replicate {A = ℕ} 68 0;
  counted = λ q within. ap (λ counts. get_or counts q 0) zero ∙ get_or-replicate 68 q 0 0 (omega (arith, within));
}
