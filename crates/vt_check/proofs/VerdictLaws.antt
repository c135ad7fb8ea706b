-- There is one verdict, and it is legal exactly if the journal is right.
use Rattle.std.proofs.Common.{◌≡◌, ◌↔◌, ℕ, ◌+◌, ◌<◌, ◌≤◌, ⊎_elim, true, zero, suc, List, [], ◌∷◌, ◌++◌, length, take, get_or, Option, Some, None, refl, sym, ap, subst, ◌∙◌, arith, true≢false}
use Rattle.std.specs.Prelude.{is_some, slice_get}
use Rattle.std.proofs.lemmas.Bool.{cases_order}
use Rattle.std.proofs.lemmas.List.{length-take, take-take, take_all, take_more}
use Rattle.std.proofs.lemmas.List.Sums.{sum_by-take-drop}
use Rattle.std.proofs.lemmas.Option.{get_or_from_slice_get, none-some, same_Some, slice_get-get_or, slice_get_within}
use Rattle.session_order.specs.Calls.{calls_by, next_by, next_of}
use Rattle.session_order.specs.Ends.{EndsBy, Setup}
use Rattle.session_text.specs.Programs.{Call, program_of}
use Rattle.session_text.specs.declared.program.Program.{Program}
use Rattle.vt_check.specs.Verdicts.{AllPass, EndFails, FailsAt, IsRightJournal, Judges, Passes}
use Rattle.vt_check.specs.Verdicts.FailsAt.{NoAnswer, NoCall, NoCaller, NoRoom}
use Rattle.vt_check.specs.Verdicts.EndFails.{Differs, NoStop, NotOver}
use Rattle.vt_check.specs.Verdicts.Judges.{AtEnd, EntryFails, Right}
use Rattle.vt_check.specs.declared.verdict.Verdict.{Verdict}
use Rattle.vt_check.specs.declared.verdict.Verdict.TheVariants as verdict
use Rattle.vt_events.specs.Charge.{charge_of}
use Rattle.vt_events.specs.declared.entry.Entry.{Entry}
use Rattle.vt_events.specs.declared.event.Event.{Event}
use Rattle.vt_journal.specs.Room.{IsWithin}
use Rattle.vt_journal.specs.declared.limits.Limits.{Limits}
use Rattle.vt_journal.specs.declared.tail.Tail.{Tail}

-- an entry passes, or it fails for one reason
not_both : (o : Setup) (before : List Entry) (entry : Entry) (why : ℕ) → Passes o before entry
    → FailsAt o before entry why → ⊥
not_both o before entry why is (NoCaller fails) = fails is.counted
not_both o before entry why is (NoCall counted fails) = fails is.next
not_both o before entry why is (NoAnswer counted next fails) = fails is.answered
not_both o before entry why is (NoRoom counted next answered fails) = fails is.within

fails_once : (o : Setup) (before : List Entry) (entry : Entry) (m n : ℕ) → FailsAt o before entry m
    → FailsAt o before entry n → m ≡ n
fails_once o before entry m n (NoCaller a) (NoCaller b) = refl
fails_once o before entry m n (NoCaller a) (NoCall counted b) = absurd (a counted)
fails_once o before entry m n (NoCaller a) (NoAnswer counted next b) = absurd (a counted)
fails_once o before entry m n (NoCaller a) (NoRoom counted next answered b) = absurd (a counted)
fails_once o before entry m n (NoCall counted a) (NoCaller b) = absurd (b counted)
fails_once o before entry m n (NoCall counted a) (NoCall counted_b b) = refl
fails_once o before entry m n (NoCall counted a) (NoAnswer counted_b next b) = absurd (a next)
fails_once o before entry m n (NoCall counted a) (NoRoom counted_b next answered b) = absurd (a next)
fails_once o before entry m n (NoAnswer counted next a) (NoCaller b) = absurd (b counted)
fails_once o before entry m n (NoAnswer counted next a) (NoCall counted_b b) = absurd (b next)
fails_once o before entry m n (NoAnswer counted next a) (NoAnswer counted_b next_b b) = refl
fails_once o before entry m n (NoAnswer counted next a) (NoRoom counted_b next_b answered b) =
    absurd (a answered)
fails_once o before entry m n (NoRoom counted next answered a) (NoCaller b) = absurd (b counted)
fails_once o before entry m n (NoRoom counted next answered a) (NoCall counted_b b) =
    absurd (b next)
fails_once o before entry m n (NoRoom counted next answered a) (NoAnswer counted_b next_b b) =
    absurd (b answered)
fails_once o before entry m n (NoRoom counted next answered a) (NoRoom counted_b next_b answered_b b) =
    refl

-- the end passes, or it fails for one reason
not_both_end : (o : Setup) (h : List Entry) (end : Tail) (why : ℕ) → EndsBy o h end
    → EndFails o h end why → ⊥
not_both_end o h end why is (NotOver events bytes fails) = true≢false (sym is.over ∙ fails)
not_both_end o h end why is (Differs events bytes over fails) = fails is
not_both_end o h end why is (NoStop full fails) = fails is

end_fails_once : (o : Setup) (h : List Entry) (end : Tail) (m n : ℕ) → EndFails o h end m
    → EndFails o h end n → m ≡ n
end_fails_once o h end m n (NotOver events bytes a) (NotOver others more b) = refl
end_fails_once o h end m n (NotOver events bytes a) (Differs others more over b) =
    absurd (true≢false (sym over ∙ a))
end_fails_once o h end m n (Differs events bytes over a) (NotOver others more b) =
    absurd (true≢false (sym over ∙ b))
end_fails_once o h end m n (Differs events bytes over a) (Differs others more over_b b) = refl
end_fails_once o h end m n (NoStop full a) (NoStop other b) = refl

-- an entry among the first ones
slice_get_take : (xs : List Entry) (i j : ℕ) → i < j → slice_get (take j xs) i ≡ slice_get xs i
slice_get_take xs i zero before = absurd (omega (arith, before))
slice_get_take [] i (suc j) before = refl
slice_get_take (x ∷ xs) zero (suc j) before = refl
slice_get_take (x ∷ xs) (suc i) (suc j) before = slice_get_take xs i j (omega (arith, before))

-- the entries before an entry that fails pass
earlier : (o : Setup) (entries : List Entry) (i j : ℕ) (entry : Entry) → i < j
    → AllPass o (take j entries) → slice_get entries i ≡ Some entry → Passes o (take i entries) entry
earlier o entries i j entry before all is =
    let within : i < length entries = slice_get_within entries i entry is in
    let read : slice_get (take j entries) i ≡ Some entry = slice_get_take entries i j before ∙ is in
    subst (λ front. Passes o front entry) (take-take i j entries (below i j before)) (all i entry read)
  where
    below : (i j : ℕ) → i < j → i ≤ j
    below i j before = omega (arith, before)

-- two entries that fail first are one
entries_once : (o : Setup) (entries : List Entry) (i j m n : ℕ) (d e : Entry)
    → AllPass o (take i entries) → AllPass o (take j entries) → slice_get entries i ≡ Some d
    → slice_get entries j ≡ Some e → FailsAt o (take i entries) d m → FailsAt o (take j entries) e n
    → ◌≡◌ {A = Verdict} (verdict.Illegal i m) (verdict.Illegal j n)
entries_once o entries i j m n d e pass_i pass_j is_d is_e fails_d fails_e =
    ⊎_elim
    (λ same.
    let entry : d ≡ e = same_Some d e (sym is_d ∙ ap (slice_get entries) same ∙ is_e) in
    let why : m ≡ n =
    fails_once o (take j entries) e m n
    (subst (λ x. FailsAt o (take j entries) x m) entry
    (subst (λ k. FailsAt o (take k entries) d m) same fails_d)) fails_e in
    λ k. verdict.Illegal (same k) (why k))
    (⊎_elim
    (λ before.
    absurd (not_both o (take i entries) d m (earlier o entries i j d before pass_j is_d) fails_d))
    (λ after.
    absurd (not_both o (take j entries) e n (earlier o entries j i e after pass_i is_e) fails_e)))
    (cases_order i j)

pub one_verdict : (o : Setup) (entries : List Entry) (end : Tail) (a b : Verdict)
    → Judges o entries end a → Judges o entries end b → a ≡ b
one_verdict o entries end a b (Right pass ends) (Right pass_b ends_b) = refl
one_verdict o entries end a b (Right pass ends) (EntryFails i why entry before is fails) =
    absurd (not_both o (take i entries) entry why (pass i entry is) fails)
one_verdict o entries end a b (Right pass ends) (AtEnd why pass_b fails) =
    absurd (not_both_end o entries end why ends fails)
one_verdict o entries end a b (EntryFails i why entry before is fails) (Right pass ends) =
    absurd (not_both o (take i entries) entry why (pass i entry is) fails)
one_verdict o entries end a b (EntryFails i m d pass_i is_d fails_d) (EntryFails j n e pass_j is_e fails_e) =
    entries_once o entries i j m n d e pass_i pass_j is_d is_e fails_d fails_e
one_verdict o entries end a b (EntryFails i why entry before is fails) (AtEnd n pass fails_b) =
    absurd (not_both o (take i entries) entry why (pass i entry is) fails)
one_verdict o entries end a b (AtEnd why pass fails) (Right pass_b ends) =
    absurd (not_both_end o entries end why ends fails)
one_verdict o entries end a b (AtEnd n pass fails) (EntryFails i why entry before is fails_b) =
    absurd (not_both o (take i entries) entry why (pass i entry is) fails_b)
one_verdict o entries end a b (AtEnd m pass fails) (AtEnd n pass_b fails_b) =
    ap (λ why. verdict.Illegal (length entries) why) (end_fails_once o entries end m n fails fails_b)

-- a history is within the limits if each of its entries passes
pub next_take : (entries : List Entry) (k : ℕ) (entry : Entry) → slice_get entries k ≡ Some entry
    → take (k + 1) entries ≡ take k entries ++ entry ∷ []
next_take entries k entry is =
    take_more entries k entry (slice_get_within entries k entry is)
    ∙ ap (λ e. take k entries ++ e ∷ []) (get_or_from_slice_get entries k entry entry is)

all_within : (o : Setup) (entries : List Entry) → AllPass o entries → IsWithin o.limits entries
all_within o [] pass = record { events = omega arith; bytes = omega arith }
all_within o (first ∷ entries) pass =
    let all : List Entry = first ∷ entries in
    let k : ℕ = length entries in
    let within : k < length all = omega arith in
    let last : Entry = get_or all k first in
    let is : slice_get all k ≡ Some last = slice_get-get_or all k first within in
    let whole : take k all ++ last ∷ [] ≡ all =
    sym (next_take all k last is) ∙ take_all (k + 1) all (omega arith) in
    subst (IsWithin o.limits) whole (pass k last is).within

-- each prefix of a history within the limits is within them
front_within : (limits : Limits) (entries : List Entry) (n : ℕ) → IsWithin limits entries
    → IsWithin limits (take n entries)
front_within limits entries n is =
    let both = sum_by-take-drop (λ (e : Entry). charge_of e.event) entries n in
    record {
      events = omega (arith, is.events, length-take n entries);
      bytes = omega (arith, is.bytes, both);
    }

-- a next call is that of a program
has_program : (found : Option Program) (made : List Call) (e : Event) → next_of found made ≡ Some e
    → is_some found ≡ true
has_program None made e is = absurd (none-some e is)
has_program (Some program) made e is = refl

pub caller_known : (programs : List Program) (p : ℕ) (h : List Entry) (e : Event)
    → next_by programs p h ≡ Some e → is_some (program_of programs p) ≡ true
caller_known programs p h e is = has_program (program_of programs p) (calls_by p h) e is

pub legal_is_right : (o : Setup) (entries : List Entry) (end : Tail)
    → Judges o entries end verdict.Legal ↔ IsRightJournal o entries end
legal_is_right o entries end = (right, judges)
  where
    right : Judges o entries end verdict.Legal → IsRightJournal o entries end
    right (Right pass ends) = record {
      legal = λ k entry is. record {
        answer = (pass k entry is).answered;
        number = (pass k entry is).counted.number;
      };
      follows = λ k entry is. (pass k entry is).next;
      ends = record { within = all_within o entries pass; rightly = ends };
    }

    judges : IsRightJournal o entries end → Judges o entries end verdict.Legal
    judges is =
        Right
        (λ k entry at. record {
          counted = record {
            caller =
                caller_known o.programs entry.caller (take k entries) _ (is.follows k entry at).next;
            number = (is.legal k entry at).number;
          };
          next = is.follows k entry at;
          answered = (is.legal k entry at).answer;
          within =
              subst (IsWithin o.limits) (next_take entries k entry at)
              (front_within o.limits entries (k + 1) is.ends.within);
        })
        is.ends.rightly

pub verdict_is_right : (o : Setup) (entries : List Entry) (end : Tail) (v : Verdict) → Judges o entries end v
    → (v ≡ verdict.Legal) ↔ IsRightJournal o entries end
verdict_is_right o entries end v judges = (
  λ is. (legal_is_right o entries end).0 (subst (Judges o entries end) is judges),
  λ right. one_verdict o entries end v verdict.Legal judges ((legal_is_right o entries end).1 right),
)
