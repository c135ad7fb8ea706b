-- There is one verdict, and it is legal exactly if the entries are a legal history and the last line is theirs.
use Rattle.std.proofs.Common.{◌≡◌, ℕ, ◌+◌, ◌<◌, ◌≤◌, ⊎_elim, zero, suc, List, [], ◌∷◌, ◌++◌, take, Some, refl, sym, ap, subst, ◌∙◌, arith}
use Rattle.std.specs.Prelude.{slice_get}
use Rattle.std.proofs.lemmas.Bool.{cases_order}
use Rattle.std.proofs.lemmas.List.{take-take, take_more}
use Rattle.std.proofs.lemmas.Option.{get_or_from_slice_get, same_Some, slice_get_within}
use Rattle.vt_events.specs.declared.entry.Entry.{Entry}
use Rattle.vt_free.specs.Verdicts.{FailsAt, IsFree, JudgesFree, LegalIsFree, OneFreeVerdict}
use Rattle.vt_free.specs.Verdicts.FailsAt.{OtherAnswer, OtherNumber}
use Rattle.vt_free.specs.Verdicts.JudgesFree.{AtEnd, EntryFails, Right}
use Rattle.vt_free.specs.declared.free_verdict.FreeVerdict.{FreeVerdict}
use Rattle.vt_free.specs.declared.free_verdict.FreeVerdict.TheVariants as verdict
use Rattle.vt_journal.specs.declared.limits.Limits.{Limits}
use Rattle.vt_journal.specs.declared.tail.Tail.{Tail}
use Rattle.vt_world.specs.History.{IsLegal, IsNext}
use Rattle.vt_world.specs.State.{WorldState}

-- an entry may follow those before it, or it fails for one reason
not_both : (start : WorldState) (before : List Entry) (entry : Entry) (why : ℕ) → IsNext start before entry
    → FailsAt start before entry why → ⊥
not_both start before entry why is (OtherNumber fails) = fails is.number
not_both start before entry why is (OtherAnswer number fails) = fails is.answer

fails_once : (start : WorldState) (before : List Entry) (entry : Entry) (m n : ℕ) → FailsAt start before entry m
    → FailsAt start before entry n → m ≡ n
fails_once start before entry m n (OtherNumber a) (OtherNumber b) = refl
fails_once start before entry m n (OtherNumber a) (OtherAnswer number b) = absurd (a number)
fails_once start before entry m n (OtherAnswer number a) (OtherNumber b) = absurd (b number)
fails_once start before entry m n (OtherAnswer number a) (OtherAnswer other b) = refl

-- an entry among the first ones
slice_get_take : (xs : List Entry) (i j : ℕ) → i < j → slice_get (take j xs) i ≡ slice_get xs i
slice_get_take xs i zero before = absurd (omega (arith, before))
slice_get_take [] i (suc j) before = refl
slice_get_take (x ∷ xs) zero (suc j) before = refl
slice_get_take (x ∷ xs) (suc i) (suc j) before = slice_get_take xs i j (omega (arith, before))

-- the entries before one that fails may follow those before them
earlier : (start : WorldState) (entries : List Entry) (i j : ℕ) (entry : Entry) → i < j
    → IsLegal start (take j entries) → slice_get entries i ≡ Some entry → IsNext start (take i entries) entry
earlier start entries i j entry before legal is =
    let read : slice_get (take j entries) i ≡ Some entry = slice_get_take entries i j before ∙ is in
    subst (λ front. IsNext start front entry) (take-take i j entries (below i j before)) (legal i entry read)
  where
    below : (i j : ℕ) → i < j → i ≤ j
    below i j before = omega (arith, before)

-- two entries that fail first are one
entries_once : (start : WorldState) (entries : List Entry) (i j m n : ℕ) (d e : Entry)
    → IsLegal start (take i entries) → IsLegal start (take j entries) → slice_get entries i ≡ Some d
    → slice_get entries j ≡ Some e → FailsAt start (take i entries) d m → FailsAt start (take j entries) e n
    → ◌≡◌ {A = FreeVerdict} (verdict.Illegal i m) (verdict.Illegal j n)
entries_once start entries i j m n d e legal_i legal_j is_d is_e fails_d fails_e =
    ⊎_elim
    (λ same.
    let entry : d ≡ e = same_Some d e (sym is_d ∙ ap (slice_get entries) same ∙ is_e) in
    let why : m ≡ n =
    fails_once start (take j entries) e m n
    (subst (λ x. FailsAt start (take j entries) x m) entry
    (subst (λ k. FailsAt start (take k entries) d m) same fails_d)) fails_e in
    λ k. verdict.Illegal (same k) (why k))
    (⊎_elim
    (λ before.
    absurd (not_both start (take i entries) d m (earlier start entries i j d before legal_j is_d) fails_d))
    (λ after.
    absurd (not_both start (take j entries) e n (earlier start entries j i e after legal_i is_e) fails_e)))
    (cases_order i j)

pub one_verdict : OneFreeVerdict
one_verdict start limits entries end a b (Right legal ends) (Right legal_b ends_b) = refl
one_verdict start limits entries end a b (Right legal ends) (EntryFails i why entry before is fails) =
    absurd (not_both start (take i entries) entry why (legal i entry is) fails)
one_verdict start limits entries end a b (Right legal ends) (AtEnd legal_b fails) = absurd (fails ends)
one_verdict start limits entries end a b (EntryFails i why entry before is fails) (Right legal ends) =
    absurd (not_both start (take i entries) entry why (legal i entry is) fails)
one_verdict start limits entries end a b (EntryFails i m d legal_i is_d fails_d) (EntryFails j n e legal_j is_e fails_e) =
    entries_once start entries i j m n d e legal_i legal_j is_d is_e fails_d fails_e
one_verdict start limits entries end a b (EntryFails i why entry before is fails) (AtEnd legal fails_b) =
    absurd (not_both start (take i entries) entry why (legal i entry is) fails)
one_verdict start limits entries end a b (AtEnd legal fails) (Right legal_b ends) = absurd (fails ends)
one_verdict start limits entries end a b (AtEnd legal fails) (EntryFails i why entry before is fails_b) =
    absurd (not_both start (take i entries) entry why (legal i entry is) fails_b)
one_verdict start limits entries end a b (AtEnd legal fails) (AtEnd legal_b fails_b) = refl

-- the entries up to one, and that one
pub next_take : (entries : List Entry) (k : ℕ) (entry : Entry) → slice_get entries k ≡ Some entry
    → take (k + 1) entries ≡ take k entries ++ entry ∷ []
next_take entries k entry is =
    take_more entries k entry (slice_get_within entries k entry is)
    ∙ ap (λ e. take k entries ++ e ∷ []) (get_or_from_slice_get entries k entry entry is)

free_is : (start : WorldState) (limits : Limits) (entries : List Entry) (end : Tail)
    → JudgesFree start limits entries end verdict.Legal → IsFree start limits entries end
free_is start limits entries end (Right legal ends) = record { legal = legal; ends = ends }

pub legal_is_free : LegalIsFree
legal_is_free start limits entries end v judges = (
  λ is. free_is start limits entries end (subst (JudgesFree start limits entries end) is judges),
  λ free. one_verdict start limits entries end v verdict.Legal judges (Right free.legal free.ends),
)
