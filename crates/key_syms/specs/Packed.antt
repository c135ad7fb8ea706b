-- The tables of the code are the symbol table, packed.
use Rattle.std.specs.Prelude.{◌≡◌, [], ◌∷◌, ◌++◌, map}
use Rattle.std.specs.List.{flat_map}
use Rattle.key_syms.specs.Symbols.{symbols}
use Rattle.key_syms.specs.declared.index.TheConstants.{KINDS, VALUES}
use Rattle.key_syms.specs.declared.table.TheConstants.{NAMES}

-- the text has the names in order, with a blank after each
abbrev pub NamesArePacked : Type 0
NamesArePacked = NAMES ≡ flat_map (λ s. s.name ++ 0x20 ∷ []) symbols

-- the kinds and the values are those of the actions in order
abbrev pub ActsArePacked : Type 0
ActsArePacked = (KINDS ≡ map (λ s. s.act.kind) symbols) × (VALUES ≡ map (λ s. s.act.value) symbols)
