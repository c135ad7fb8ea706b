-- A race whose callers have all ended follows the programs and ends.
use Rattle.std.proofs.Common.{◌≡◌, ℕ, ◌+◌, ◌<◌, zero, suc, Bool, true, ⊎_elim, arith, List, [], ◌∷◌, filter, take, map, Option, Some, None, refl, sym, ap, ◌∙◌, subst}
use Rattle.std.proofs.lemmas.Bool.{and_from, cases_Bool, eq-eqb, false≢true}
use Rattle.std.proofs.lemmas.Option.{none-some, same_Some}
use Rattle.std.specs.List.{list_all, range_with_len}
use Rattle.std.specs.Prelude.{◌==◌, is_some, slice_get}
use Rattle.session_order.proofs.Turns.{EachIs, each_more, each_none}
use Rattle.session_order.specs.Calls.{call_of, calls_by, is_none, made_by, next_by, next_of}
use Rattle.session_order.specs.Ends.{EndsBy, Setup}
use Rattle.session_order.specs.Follows.{Follows}
use Rattle.session_order.specs.Races.{HasEnded, HasNext, IsClosed, RaceIsRight, RunsGrow, StopsAt}
use Rattle.session_text.specs.Programs.{next, program_of}
use Rattle.session_text.specs.declared.program.Program.{Program}
use Rattle.vt_base.specs.Limits.{callers as every_caller}
use Rattle.vt_events.specs.Plain.{plain_event}
use Rattle.vt_events.specs.declared.entry.Entry.{Entry}
use Rattle.vt_journal.specs.Room.{full_at, has_room, tail_at}
use Rattle.vt_journal.specs.declared.full.Full.{Full}

-- a fact of each entry that passes a test, after those before it that pass
of_passing : (P : List Entry → Entry → Type 0) (test : Entry → Bool) (entries : List Entry)
    → EachIs P (filter test entries) → (k : ℕ) (entry : Entry) → slice_get entries k ≡ Some entry
    → test entry ≡ true → P (filter test (take k entries)) entry
of_passing P test [] each k entry is passes = absurd (none-some entry is)
of_passing P test (first ∷ entries) each zero entry is passes =
    let here : test first ≡ true = ap test (same_Some first entry is) ∙ passes in
    each 0 entry (rw here is)
of_passing P test (first ∷ entries) each (suc k) entry is passes = ⊎_elim
    (λ here.
    let mine : EachIs P (first ∷ filter test entries) = rw here at each in
    rw here (of_passing (λ before. P (first ∷ before)) test entries (λ j. mine (suc j)) k entry is passes))
    (λ not_here. rw not_here (of_passing P test entries (rw not_here at each) k entry is passes))
    (cases_Bool (test first))

pub runs_grow : RunsGrow
runs_grow program made entry run is =
    each_more (λ before e. next program (map call_of before) ≡ Some (plain_event e.event)) made entry run is

-- a program that isn't None is some program
found_or : (program : Option Program) → (program ≡ None → ⊥) → (found : Program) × (program ≡ Some found)
found_or None some = absurd (some refl)
found_or (Some found) some = (found, refl)

follows : (o : Setup) (history : List Entry) (stop : Option Full) (caller : ℕ)
    → IsClosed o history stop caller
    → ((p : ℕ) (program : Program) → program_of o.programs p ≡ Some program → HasEnded program (made_by p history) stop (p ≡ caller))
    → Follows o.start o.programs history
follows o history stop caller closed ended k entry is =
    let p : ℕ = entry.caller in
    let test : Entry → Bool = λ x. x.caller == p in
    let own : test entry ≡ true = eq-eqb p p refl in
    let (program, here) = found_or (program_of o.programs p)
    (λ none. of_passing (λ _ _. ⊥) test history
    (subst (EachIs (λ _ _. ⊥)) (sym (closed.known p none)) (each_none (λ _ _. ⊥))) k entry is own) in
    record {
      next =
          ap (λ known. next_of known (calls_by p (take k history))) here
          ∙ of_passing (λ made e. next program (map call_of made) ≡ Some (plain_event e.event)) test history (ended p program here).run k entry is own;
      ended = λ _. closed.free k entry is;
    }

-- if each of these programs is over, all are
pub over_from : (test : ℕ → Bool) (a n : ℕ) → ((p : ℕ) → p < a + n → test p ≡ true)
    → list_all test (range_with_len a n) ≡ true
over_from test a zero each = refl
over_from test a (suc n) each =
    and_from (test a) (list_all test (range_with_len (a + 1) n)) (each a (omega arith))
    (over_from test (a + 1) n (λ p low. each p (omega (arith, low))))

is_over : (o : Setup) (history : List Entry) (caller p : ℕ)
    → ((p : ℕ) (program : Program) → program_of o.programs p ≡ Some program → HasEnded program (made_by p history) None (p ≡ caller))
    → is_none (next_by o.programs p history) ≡ true
is_over o history caller p ended =
    over_by (program_of o.programs p) refl
  where
    over_by : (program : Option Program) → program_of o.programs p ≡ program
        → is_none (next_by o.programs p history) ≡ true
    over_by None none = ap (λ known. is_none (next_of known (calls_by p history))) none
    over_by (Some program) here =
        ap (λ known. is_none (next_of known (calls_by p history))) here
        ∙ ap is_none ((ended p program here).over refl)

ends_by : (o : Setup) (history : List Entry) (stop : Option Full) (caller : ℕ)
    → IsClosed o history stop caller
    → ((p : ℕ) (program : Program) → program_of o.programs p ≡ Some program → HasEnded program (made_by p history) stop (p ≡ caller))
    → EndsBy o history (tail_at history stop)
ends_by o history None caller closed ended = record {
  over = over_from (λ p. is_none (next_by o.programs p history)) 0 every_caller (λ p _. is_over o history caller p ended);
  entries = refl;
  charge = refl;
}
ends_by o history (Some full) caller closed ended =
    let at : StopsAt o history full caller = closed.stops full refl in
    let found : (program : Program) × (program_of o.programs caller ≡ Some program) =
    found_or (program_of o.programs caller)
    (λ none. false≢true (sym (ap is_some none) ∙ at.known)) in
    let call : HasNext found.0 (made_by caller history) full.charge =
    (ended caller found.0 found.1).left full refl refl in
    record {
      caller = caller;
      call = call.call;
      next = ap (λ known. next_of known (calls_by caller history)) found.1 ∙ call.next;
      goes = at.goes;
      no_room = ap (has_room o.limits history) call.charge_is ∙ at.no_room;
      numbers = at.numbers ∙ ap (full_at history) (sym call.charge_is);
    }

pub race_right : RaceIsRight
race_right o history stop caller closed ended = (
  follows o history stop caller closed ended,
  record { within = closed.within; rightly = ends_by o history stop caller closed ended },
)
