-- The charges of calls: which there are, the most that a list of them sums up to, and a journal that is full.
use Rattle.std.proofs.Common.{◌≡◌, ◌↔◌, ◌≤◌, ◌-◌, ◌*◌, ℕ, Bool, true, false, not, arith, List, [], ◌∷◌, length, replicate, refl, sym, ◌∙◌, true≢false}
use Rattle.std.proofs.lemmas.Bool.{false≢true}
use Rattle.std.proofs.lemmas.List.{length-replicate}
use Rattle.std.proofs.lemmas.List.Sums.{sum_by-cons}
use Rattle.std.specs.Prelude.{IsTrue}
use Rattle.vt_events.specs.Charge.{charge_of}
use Rattle.vt_events.specs.declared.entry.Entry.{Entry}
use Rattle.vt_events.specs.declared.event.Event.{Event}
use Rattle.vt_events.specs.declared.event.Event.TheVariants as event
use Rattle.vt_free.specs.Verdicts.{IsFullAt}
use Rattle.vt_journal.specs.Log.{charge_of_all}
use Rattle.vt_journal.specs.Room.{has_room}
use Rattle.vt_journal.specs.declared.full.Full.{Full}
use Rattle.vt_journal.specs.declared.limits.Limits.{Limits}

-- a call has at least 64 bytes, and at most the greatest number of 32 bits
pub least : (e : Event) → 64 ≤ charge_of e
least e = omega arith

pub most : (e : Event) → charge_of e ≤ 4294967295
most e = omega arith

-- each charge between them is that of a write
pub call_of : (charge : ℕ) → 64 ≤ charge → charge ≤ 4294967295 → (e : Event) × (charge_of e ≡ charge)
call_of charge low high = (
  event.Write 0 (record { bytes = replicate (charge - 64) 0; room = 0 }),
  omega (arith, low, high, length-replicate {A = ℕ} (charge - 64) 0),
)

pub most_of_all : (history : List Entry) → charge_of_all history ≤ length history * 4294967295
most_of_all [] = omega arith
most_of_all (entry ∷ history) =
    omega (arith, most_of_all history, most entry.event, sum_by-cons (λ (x : Entry). charge_of x.event) entry history)

-- with these numbers, and the charge of some call, a journal is full exactly if the call finds no room
pub full_is : (limits : Limits) (history : List Entry) (full : Full) (room : Bool)
    → full.events ≡ length history → full.bytes ≡ charge_of_all history → 64 ≤ full.charge
    → full.charge ≤ 4294967295 → has_room limits history full.charge ≡ room
    → IsTrue (not room) ↔ IsFullAt limits history full
full_is limits history full true events bytes low high is =
    (λ no. absurd (false≢true no), λ stops. absurd (true≢false (sym is ∙ stops.no_room)))
full_is limits history full false events bytes low high is = (
  λ yes. record {
    numbers = λ i. record { events = events i; bytes = bytes i; charge = full.charge };
    call = (call_of full.charge low high).0;
    charge = (call_of full.charge low high).1;
    no_room = is;
  },
  λ stops. refl,
)
