-- A race whose passes are all joined makes the history right.
use Rattle.std.proofs.Common.{◌≡◌, ℕ, ◌≤◌, suc, true, false, ⊎_elim, arith, List, [], ◌∷◌, get_or, length, map, cond, Option, Some, None, refl, sym, ap, ◌∙◌, subst}
use Rattle.std.proofs.lemmas.Bool.{both_ways, cases_Bool, cases_lt}
use Rattle.std.proofs.lemmas.Option.{get_or_from_slice_get, none-some, same_Some, slice_get_within}
use Rattle.std.specs.Prelude.{count_by, is_some, slice_get}
use Rattle.atomic_table.specs.Seated.{TableId}
use Rattle.session_order.specs.Calls.{call_of, made_by}
use Rattle.session_order.specs.Ends.{Ends, Setup}
use Rattle.session_order.specs.Follows.{Follows, is_waiting}
use Rattle.session_order.specs.Races.{HasEnded, HasNext, IsClosed, IsRun, RaceIsRight}
use Rattle.session_order.specs.Sessions.{AreOfCallers, LegalAreRight, setup_of, start_of}
use Rattle.session_run.proofs.Ends.{right_run}
use Rattle.session_run.proofs.HavePrograms.{caller_at, caller_known}
use Rattle.session_run.specs.Callers.{callers_in, has_program}
use Rattle.session_run.specs.Racing.{AreAllHome, IsNone, Works}
use Rattle.session_run.specs.Runs.{IsRightRun}
use Rattle.session_text.specs.Programs.{next, program_of}
use Rattle.session_text.specs.Sessions.{SessionView}
use Rattle.session_text.specs.declared.program.Program.{Program}
use Rattle.turn_lock.specs.declared.seal.Seal.{Seal}
use Rattle.vt_hub.specs.Closed.{IsPart, IsStopped, IsWhole}
use Rattle.vt_hub.specs.Views.{PassView, StewardView, is_out}
use Rattle.vt_hub.specs.declared.run.Run.{Run}
use Rattle.vt_hub.specs.declared.pass_place.PassPlace.{PassPlace}
use Rattle.vt_hub.specs.declared.pass_place.PassPlace.TheVariants.{Unmade, Home}
use Rattle.vt_journal.specs.Log.{Logged}
use Rattle.vt_journal.specs.Room.{tail_at}
use Rattle.vt_journal.specs.declared.full.Full.{Full}
use Rattle.vt_journal.specs.declared.limits.Limits.{Limits}
use Rattle.vt_world.specs.State.{WorldState}

-- no pass is out
none_out : (stands : List PassPlace)
    → ((k : ℕ) → is_out (get_or stands k Unmade) ≡ false) → count_by is_out stands ≡ 0
none_out [] each = refl
none_out (s ∷ stands) each =
    let first : ◌≡◌ {A = ℕ} (cond (is_out s) 1 0) 0 = ap (λ b. cond b 1 0) (each 0) in
    let others : count_by is_out stands ≡ 0 = none_out stands (λ k. each (suc k)) in
    count_by-cons first others
  where
    count_by-cons : ◌≡◌ {A = ℕ} (cond (is_out s) 1 0) 0 → count_by is_out stands ≡ 0 → count_by is_out (s ∷ stands) ≡ 0
    count_by-cons first others = grind (arith, first, others)

-- a caller without a program has no pass
no_pass : (programs : List Program) (k : ℕ) → ((has_program programs k ≡ true) → k ≤ 67 → ⊥)
    → IsNone (callers_in programs) (length (callers_in programs)) k
no_pass programs k none i within is =
    let known = caller_known programs i within in
    none (ap (has_program programs) (sym is) ∙ known.0) (omega (arith, known.1, is))

pub all_home : (programs : List Program) (here : TableId) (s : StewardView)
    → AreAllHome programs here s → count_by is_out s.stands ≡ 0
all_home programs here s home = none_out s.stands (λ k. ⊎_elim
    (λ has. ⊎_elim
    (λ past. ap is_out (home.rest k (no_pass programs k (λ _ low. let no : ⊥ = omega (arith, past, low) in no))))
    (λ low.
    let at = caller_at programs k (omega (arith, low)) has in
    ap is_out (subst (λ p. get_or s.stands p Unmade ≡ Home) at.2 (home.home at.0 at.1)))
    (cases_lt 67 k))
    (λ hasnt. ap is_out (home.rest k (no_pass programs k (λ has _. both_ways (has_program programs k) hasnt has))))
    (cases_Bool (has_program programs k)))

-- the facts of a joined pass
module _ (o : Setup) (here : TableId) (s : StewardView) (world : WorldState) (log : Logged) (stop : Option Full) (whole : IsWhole o.start o.limits s world log stop) (home : AreAllHome o.programs here s) (known_callers : AreOfCallers o.programs) where
  part : (place : ℕ) (x : PassView) → slice_get s.joined place ≡ Some x
      → IsPart o.start log.entries stop x
  part place x is =
      subst (IsPart o.start log.entries stop) (get_or_from_slice_get s.joined place x x is)
      (whole.parts place x (slice_get_within s.joined place x is))

  works : (place : ℕ) (x : PassView) (program : Program) → slice_get s.joined place ≡ Some x
      → program_of o.programs x.number ≡ Some program → Works program x
  works place x program is known = (home.ran place x is).1.works program known

  -- a pass that met no stop, if there is none
  unstopped : (x : PassView) → IsPart o.start log.entries stop x → stop ≡ None
      → (met : Option (Seal Full)) → x.stop ≡ met → x.stop ≡ None
  unstopped x is none None met = met
  unstopped x is none (Some z) met = absurd (none-some z.what (sym none ∙ (is.met z met).0))

  -- the caller by whose call the history stopped
  record Names (caller : ℕ) : Type 0 where
    pub by :
        (full : Full) → stop ≡ Some full
        → (it : IsStopped o.limits world log.entries s.joined full) × (it.pass.number ≡ caller)

  named : (end : Option Full) → stop ≡ end → (caller : ℕ) × Names caller
  named None is = (0, record { by = λ full other. absurd (none-some full (sym is ∙ other)) })
  named (Some full) is =
      let it : IsStopped o.limits world log.entries s.joined full = whole.stops full is in (
        it.pass.number,
        record {
          by = λ other same.
              let there : full ≡ other = same_Some full other (sym is ∙ same) in
              subst (λ (f : Full). (found : IsStopped o.limits world log.entries s.joined f) × (found.pass.number ≡ it.pass.number)) there (it, refl);
        },
      )

  closed : (caller : ℕ) → Names caller → IsClosed o log.entries stop caller
  closed caller names = record {
    within = whole.within;
    free = whole.free;
    known = λ p none. whole.unmade p (home.rest p (no_pass o.programs p (λ has _. both_ways (has_program o.programs p) (ap is_some none) has)));
    stops = λ full is.
        let found = names.by full is in
        let it : IsStopped o.limits world log.entries s.joined full = found.0 in
        record {
          known = subst (λ p. has_program o.programs p ≡ true) found.1 (home.ran it.place it.pass it.here).0;
          goes = ap (λ w. is_waiting w caller) (sym whole.replayed) ∙ ap (is_waiting world) (sym found.1) ∙ it.goes;
          no_room = it.no_room;
          numbers = it.numbers;
        };
  }

  ended : (caller : ℕ) → Names caller → (p : ℕ) (program : Program)
      → program_of o.programs p ≡ Some program
      → HasEnded program (made_by p log.entries) stop (p ≡ caller)
  ended caller names p program known =
      let has : has_program o.programs p ≡ true = ap is_some known in
      let at = caller_at o.programs p (omega (arith, known_callers p has)) has in
      let mine = home.each at.0 at.1 in
      let same : mine.1.number ≡ p = mine.3 ∙ at.2 in
      let x : PassView = mine.1 in
      let is : IsPart o.start log.entries stop x = part mine.0 x mine.2 in
      let work : Works program x = works mine.0 x program mine.2 (ap (program_of o.programs) same ∙ known) in
      let made : x.mine ≡ made_by p log.entries = is.mine ∙ ap (λ n. made_by n log.entries) same in
      record {
        run = subst (IsRun program) made work.run;
        over = λ none.
            ap (λ es. next program (map call_of es)) (sym made) ∙ work.over (unstopped x is none x.stop refl);
        left = λ full stopped by.
            let found = names.by full stopped in
            let it : IsStopped o.limits world log.entries s.joined full = found.0 in
            let number : it.pass.number ≡ p = found.1 ∙ sym by in
            let his : it.pass.mine ≡ made_by p log.entries =
            (part it.place it.pass it.here).mine ∙ ap (λ n. made_by n log.entries) number in
            let does : Works program it.pass =
            works it.place it.pass program it.here (ap (program_of o.programs) number ∙ known) in
            subst (λ es. HasNext program es full.charge) his
            (does.left (record { by = it.pass.number; what = full }) it.met refl);
      }

  pub race_holds : RaceIsRight
      → Follows o.start o.programs log.entries × Ends o log.entries (tail_at log.entries stop)
  race_holds right =
      let caller : (caller : ℕ) × Names caller = named stop refl in
      right o log.entries stop caller.0 (closed caller.0 caller.1) (ended caller.0 caller.1)

-- the run of a race of a session, after all passes were joined
pub race_right : RaceIsRight → (s : SessionView) (start : WorldState) (most : Limits) (programs : List Program) (here : TableId) (steward : StewardView) (run : Run)
    → AreOfCallers s.programs → LegalAreRight s
    → start ≡ start_of s → most ≡ s.limits → programs ≡ s.programs
    → IsWhole start most steward run.world run.log run.stop
    → AreAllHome programs here steward → IsRightRun s run
race_right right s start most programs here steward run known laws is_start is_most same given taken =
    let whole : IsWhole (start_of s) s.limits steward run.world run.log run.stop =
    subst (λ st. IsWhole st s.limits steward run.world run.log run.stop) is_start
    (subst (λ m. IsWhole start m steward run.world run.log run.stop) is_most given) in
    let home : AreAllHome s.programs here steward = subst (λ ps. AreAllHome ps here steward) same taken in
    let holds = race_holds (setup_of s) here steward run.world run.log run.stop whole home known right in
    right_run s laws run whole.replayed whole.legal holds.0 holds.1
