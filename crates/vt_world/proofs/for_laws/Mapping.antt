-- No event but those that set key tables changes them.
use Rattle.std.proofs.Common.{◌≡◌, ℕ, Bool, true, false, true≢false, List, refl, ◌∙◌}
use Rattle.std.proofs.lemmas.Bool.{false≢true}
use Rattle.std.specs.List.{list_all}
use Rattle.key_tables.specs.Tables.{Tables}
use Rattle.vt_events.specs.declared.event.Event.{Event}
use Rattle.vt_events.specs.declared.event.Event.TheVariants as event
use Rattle.vt_world.proofs.for_laws.Kept.{deeds_keep, unmarked}
use Rattle.vt_world.proofs.for_laws.RowDeeds.{is_typed, row_passes}
use Rattle.vt_world.proofs.for_laws.Steps.{by_step}
use Rattle.vt_world.specs.Deeds.{Deed, Mapped, Own, OwnDeed, apply_deeds}
use Rattle.vt_world.specs.Heard.{without_marks}
use Rattle.vt_world.specs.Events.{row}
use Rattle.vt_world.specs.State.{WorldState}
use Rattle.vt_world.specs.Step.{Outcome}
use Rattle.vt_world.specs.TableLaws.{TablesStay, sets_tables}

-- a deed that keeps the key tables
abbrev keeps : Deed → Bool
keeps (Own (Mapped tables)) = false
keeps deed = true

abbrev all_keep : List Deed → Bool
all_keep deeds = list_all keeps deeds

typed_keeps : (deed : Deed) → is_typed deed ≡ true → keeps deed ≡ true
typed_keeps (Own (Mapped tables)) typed = absurd (false≢true typed)
typed_keeps deed typed = refl

-- the deeds of every other event
row_keeps : (w : WorldState) (p : ℕ) (e : Event) → sets_tables e ≡ false
    → all_keep (row w p e).deeds ≡ true
row_keeps w p (event.SetEntry fd t code k v) is = absurd (true≢false is)
row_keeps w p (event.SetFunc fd i b) is = absurd (true≢false is)
row_keeps w p (event.SetDia fd b) is = absurd (true≢false is)
row_keeps w p e is = row_passes keeps typed_keeps w p e (λ n scanner. refl)

abbrev tables : WorldState → Tables
tables w = w.board.tables

own : (w : WorldState) (deed : OwnDeed) → keeps (Own deed) ≡ true → tables (unmarked w deed) ≡ tables w
own w (Mapped t) is = absurd (false≢true is)
own w deed is = refl

all : (w : WorldState) (deeds : List Deed) → all_keep deeds ≡ true → tables (apply_deeds w deeds) ≡ tables w
all = deeds_keep keeps (λ w v. tables v ≡ tables w)
    (record {
      itself = λ w. refl;
      then = λ u v w first second. second ∙ first;
      marked = λ w m. refl;
      shown = λ w display. refl;
      own = own;
    })

pub tables_stay : TablesStay
tables_stay w p e is =
    by_step
    (λ (deeds : List Deed) (after : Outcome). after.world.board.tables ≡ w.board.tables)
    w p e (λ errno. refl)
    (λ accepted. all (without_marks w) (row (without_marks w) p e).deeds (row_keeps (without_marks w) p e is))
