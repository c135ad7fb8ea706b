-- A judge that takes one more entry, and then shows it to a witness.
use Rattle.std.proofs.Common.{◌≡◌, ◌↔◌, ℕ, ◌+◌, ◌<◌, Bool, arith, List, [], ◌∷◌, ◌++◌, length, take, sym, ap, ◌∙◌}
use Rattle.std.specs.Prelude.{IsTrue}
use Rattle.std.proofs.lemmas.Bool.Decides.{nat_tests}
use Rattle.std.proofs.lemmas.List.{length-take, length_push}
use Rattle.std.proofs.lemmas.List.Sums.{sum_by_push}
use Rattle.session_order.specs.Ends.{Setup}
use Rattle.session_order.specs.Standing.{AreAfter, SessionProgressView}
use Rattle.vt_check.specs.Judging.{IsAfter}
use Rattle.vt_check.specs.Verdicts.{Passes}
use Rattle.vt_check.specs.Watching.{IsNextEntry}
use Rattle.vt_check.specs.declared.judge.Judge.{Judge}
use Rattle.vt_events.specs.Charge.{charge_of}
use Rattle.vt_events.specs.declared.entry.Entry.{Entry}
use Rattle.vt_journal.specs.Room.{IsWithin, has_room}
use Rattle.vt_journal.specs.declared.limits.Limits.{Limits}
use Rattle.vt_world.proofs.Histories.{each_more, replay_grows}
use Rattle.vt_world.specs.State.{WorldState}
use Rattle.vt_world.specs.Step.{step}

-- one more entry is within the limits exactly if there is room for it
pub within_more : (limits : Limits) (h : List Entry) (entry : Entry) (charge : ℕ) (room : Bool)
    → charge ≡ charge_of entry.event → has_room limits h charge ≡ room
    → IsTrue room ↔ IsWithin limits (h ++ entry ∷ [])
within_more limits h entry charge room sum is =
    let longer = length_push h entry in
    let more = sum_by_push (λ (x : Entry). charge_of x.event) h entry in
    (λ yes. grind (arith, nat_tests), λ within. grind (arith, nat_tests))

-- an entry that passes is taken
pub taken : (o : Setup) (h : List Entry) (entry : Entry) (j : Judge) (world : WorldState)
    (standing : SessionProgressView) (charge : ℕ) → IsAfter o h j → Passes o h entry
    → (step j.world entry.caller entry.event).world ≡ world
    → AreAfter o.programs (h ++ entry ∷ []) standing → charge ≡ charge_of entry.event
    → IsAfter o (h ++ entry ∷ [])
    (record j { world = world; standing = standing; events = j.events + 1; bytes = j.bytes + charge })
taken o h entry j world standing charge at passes stepped stands is = record {
  limits = at.limits;
  few = at.few;
  programs = at.programs;
  callers = at.callers;
  replayed =
      sym stepped
      ∙ ap (λ w. (step w entry.caller entry.event).world) at.replayed
      ∙ sym (replay_grows o.start h entry);
  standing = stands;
  events = omega (arith, at.events, length_push h entry);
  bytes = omega (arith, at.bytes, is, sum_by_push (λ (x : Entry). charge_of x.event) h entry);
  passed = each_more (Passes o) h entry at.passed passes;
}

pub next_entry : (o : Setup) (entries : List Entry) (i : ℕ) (entry : Entry) (after : Judge)
    → i < length entries → IsAfter o (take i entries ++ entry ∷ []) after
    → IsNextEntry o.start (take i entries) i entry after.world
next_entry o entries i entry after within at = record {
  place_is = omega (arith, within, length-take i entries);
  after_is = at.replayed ∙ replay_grows o.start (take i entries) entry;
}
