-- Passes of a race: made for its callers, and joined.
use Rattle.std.proofs.Common.{◌≡◌, ◌⊎◌, ℕ, ◌+◌, ◌<◌, false, zero, suc, ⊎_elim, inl, inr, arith, List, [], ◌∷◌, ◌++◌, length, get_or, replicate, set, Some, refl, sym, ap, ◌∙◌, subst, length-append}
use Rattle.std.proofs.Math.ListN.{get_or-append}
use Rattle.std.proofs.lemmas.Bool.{cases_eq, cases_lt}
use Rattle.std.proofs.lemmas.List.{get_or-replicate, get_or-set_same, get_or-set_other, get_or_past, get_or_push, length-replicate, length-set}
use Rattle.std.proofs.lemmas.List.Kept.{AllPairs-from_increasing}
use Rattle.std.proofs.lemmas.Option.{same_Some}
use Rattle.std.specs.List.Sorted.{IsStrictlyIncreasing}
use Rattle.std.specs.Prelude.{slice_get}
use Rattle.atomic_table.specs.Seated.{TableId}
use Rattle.session_run.proofs.HavePrograms.{caller_known}
use Rattle.session_run.specs.Callers.{callers_in, has_program}
use Rattle.session_run.specs.Racing.{AreFresh, AreHome, IsAfterWorker, IsFresh, IsSplit}
use Rattle.session_text.specs.declared.program.Program.{Program}
use Rattle.vt_hub.specs.Views.{PassView, StewardView, is_made, new_pass, view_at_open, with_pass}
use Rattle.vt_hub.specs.declared.pass_place.PassPlace.{PassPlace}
use Rattle.vt_hub.specs.declared.pass_place.PassPlace.TheVariants.{Unmade, Out, Home}
use Rattle.vt_world.specs.State.{WorldState}

unmade : (n k : ℕ) → get_or (replicate n Unmade) k Unmade ≡ Unmade
unmade n k = ⊎_elim
    (λ low. get_or-replicate n k Unmade Unmade low)
    (λ past. get_or_past (replicate n Unmade) k Unmade (omega (arith, past, length-replicate {A = PassPlace} n Unmade)))
    (cases_lt k n)

-- the steward of a hub that was just opened has made no pass
pub split_start : (start : WorldState) (here : TableId) (callers : List ℕ) (s : StewardView)
    → s ≡ view_at_open start here → IsSplit here callers 0 s
split_start start here callers s is = subst (IsSplit here callers 0) (sym is) (record {
  own = refl;
  size = length-replicate {A = PassPlace} 68 Unmade;
  rest = λ k _. unmade 68 k;
  none_home = refl;
})

-- the next one has no pass yet
pub split_free : (here : TableId) (callers : List ℕ) (n p : ℕ) (s : StewardView) → IsStrictlyIncreasing callers
    → n < length callers → p ≡ get_or callers n 0 → IsSplit here callers n s
    → is_made (get_or s.stands p Unmade) ≡ false
split_free here callers n p s rising within is split =
    ap is_made (split.rest p (λ i low same.
    let no : ⊥ = omega (arith, AllPairs-from_increasing callers rising i n 0 low within, same, is) in no))

-- one pass more is made
pub split_more : (here : TableId) (callers : List ℕ) (n p : ℕ) (s : StewardView) → p ≡ get_or callers n 0
    → IsSplit here callers n s → IsSplit here callers (n + 1) (with_pass p s)
split_more here callers n p s is split = record {
  own = split.own;
  size = length-set s.stands p Out ∙ split.size;
  rest = λ k none.
      get_or-set_other s.stands p k Out Unmade (λ same. none n (omega arith) (sym is ∙ sym same))
      ∙ split.rest k (λ i low. none i (omega (arith, low)));
  none_home = split.none_home;
}

pub fresh_more : (here : TableId) (callers : List ℕ) (n p : ℕ) (s : StewardView) (passes : List PassView)
    → p ≡ get_or callers n 0 → IsSplit here callers n s
    → AreFresh here callers passes → length passes ≡ n
    → AreFresh here callers (passes ++ new_pass p s ∷ [])
fresh_more here callers n p s passes is split fresh many i x within read = ⊎_elim
    (λ low. fresh i x low (read ∙ get_or-append passes (new_pass p s ∷ []) x i low))
    (λ past.
    let last : i ≡ length passes =
    omega (arith, past, within, length-append passes (new_pass p s ∷ [])) in
    let same : x ≡ new_pass p s = read ∙ get_or_push passes (new_pass p s) x i (sym last) in
    subst (IsFresh here (get_or callers i 0)) (sym same) (record {
      own = split.own;
      numbered = is ∙ ap (λ k. get_or callers k 0) (sym (last ∙ many));
      empty = refl;
      goes = refl;
    }))
    (cases_lt i (length passes))

-- the joined passes, and then one pass more
at_either : (q : PassView) (joined : List PassView) (place : ℕ) (x : PassView)
    → slice_get (q ∷ joined) place ≡ Some x
    → (q ≡ x) ⊎ ((k : ℕ) × (slice_get joined k ≡ Some x))
at_either q joined zero x is = inl (same_Some q x is)
at_either q joined (suc k) x is = inr (k, is)

-- one pass more is joined
pub home_more : (programs : List Program) (here : TableId) (n : ℕ) (s t : StewardView) (q : PassView)
    → n < length (callers_in programs)
    → t.hub ≡ s.hub → t.stands ≡ set s.stands q.number Home → t.joined ≡ q ∷ s.joined
    → IsAfterWorker programs here (get_or (callers_in programs) n 0) q → AreHome programs here n s
    → AreHome programs here (n + 1) t
home_more programs here n s t q inside hub stands joined run home =
    let all : List ℕ = callers_in programs in
    let known = caller_known programs n inside in
    record {
      own = hub ∙ home.own;
      size = ap length stands ∙ length-set s.stands q.number Home ∙ home.size;
      home = λ i low. ⊎_elim
          (λ mine.
          ap (λ (list : List PassPlace). get_or list (get_or all i 0) Unmade) stands
          ∙ ap (λ m. get_or (set s.stands q.number Home) m Unmade) (sym mine)
          ∙ get_or-set_same s.stands q.number Home Unmade (omega (arith, run.numbered, known.1, home.size)))
          (λ other.
          ap (λ (list : List PassPlace). get_or list (get_or all i 0) Unmade) stands
          ∙ get_or-set_other s.stands q.number (get_or all i 0) Home Unmade (λ same. other (sym same))
          ∙ home.home i (less n i low (λ last. other (run.numbered ∙ ap (λ k. get_or all k 0) last))))
          (cases_eq q.number (get_or all i 0));
      rest = λ k none.
          ap (λ (list : List PassPlace). get_or list k Unmade) stands
          ∙ get_or-set_other s.stands q.number k Home Unmade (λ last. none n inside (sym run.numbered ∙ sym last))
          ∙ home.rest k none;
      ran = λ place x is. ⊎_elim
          (λ mine.
          let number : x.number ≡ get_or all n 0 = ap (λ (p : PassView). p.number) (sym mine) ∙ run.numbered in
          (ap (has_program programs) number ∙ known.0, subst (λ m. IsAfterWorker programs here m x) (sym number) (subst (IsAfterWorker programs here (get_or all n 0)) mine run)))
          (λ old. home.ran old.0 x old.1)
          (at_either q s.joined place x (sym (ap (λ (list : List PassView). slice_get list place) joined) ∙ is));
      each = λ i low. ⊎_elim
          (λ last. (0, q, ap (λ (list : List PassView). slice_get list 0) joined, run.numbered ∙ ap (λ k. get_or all k 0) last))
          (λ other.
          let old = home.each i (less n i low other) in
          (suc old.0, old.1, ap (λ (list : List PassView). slice_get list (suc old.0)) joined ∙ old.2, old.3))
          (cases_eq n i);
    }
  where
    less : (n k : ℕ) → k < n + 1 → (n ≡ k → ⊥) → k < n
    less n k low other = ⊎_elim (λ below. below) (λ past. absurd (other (omega (arith, low, past)))) (cases_lt k n)
