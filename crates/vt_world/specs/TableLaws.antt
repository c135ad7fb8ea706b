-- Which calls change the key tables.
use Rattle.std.specs.Prelude.{◌≡◌, ℕ, Bool, true, false}
use Rattle.vt_events.specs.declared.event.Event.{Event}
use Rattle.vt_events.specs.declared.event.Event.TheVariants as event
use Rattle.vt_world.specs.State.{WorldState}
use Rattle.vt_world.specs.Step.{step}

-- a call that sets an entry, a string or the pairs of the key tables
abbrev pub sets_tables : Event → Bool
sets_tables (event.SetEntry fd t code k v) = true
sets_tables (event.SetFunc fd i b) = true
sets_tables (event.SetDia fd b) = true
sets_tables e = false

-- no other event changes the key tables
abbrev pub TablesStay : Type 0
TablesStay =
    (w : WorldState) (p : ℕ) (e : Event) → sets_tables e ≡ false
    → (step w p e).world.board.tables ≡ w.board.tables
