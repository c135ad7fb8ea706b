-- Units and their beginnings, over whole texts.
use Rattle.std.specs.Prelude.{◌≡◌, ◌≢◌, ◌⊎◌, ◌↔◌, ℕ, List, [], ◌∷◌, ◌++◌}
use Rattle.vt_units.specs.Reading.{Kind, whole, dropped, unfinished, reading}
use Rattle.vt_units.specs.declared.mode.Mode.{Mode}
use Rattle.vt_units.specs.declared.unit.Unit as units
use Rattle.vt_units.specs.declared.unit.Unit.TheVariants.{Ignored}

-- the whole text is this unit in this mode. A sequence that its last byte drops is ignored
abbrev pub Spells : Mode → List ℕ → units.Unit → Type 0
Spells m text u = (reading m text ≡ whole u) ⊎ ((reading m text ≡ dropped) × (u ≡ Ignored))

-- the text, which isn't empty, is a proper prefix of a unit
abbrev pub Before : Mode → List ℕ → Type 0
Before m text =
    (text ≢ []) × (x : ℕ) × (more : List ℕ) × (u : units.Unit) × Spells m (text ++ x ∷ more) u

abbrev pub IsUnfinished : Mode → List ℕ → Type 0
IsUnfinished m text = (k : Kind) × (reading m text ≡ unfinished k)

-- the unfinished texts are the proper prefixes of units
abbrev pub UnfinishedIsBefore : Type 0
UnfinishedIsBefore = (m : Mode) (text : List ℕ) → IsUnfinished m text ↔ Before m text
