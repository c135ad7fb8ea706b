-- Bytes that are sent are the same whether they are in a short result or in a whole one.
use Rattle.std.proofs.Common.{◌≡◌, ℕ, List, [], ◌∷◌, refl}
use Rattle.key_machine.specs.Bytes.{out_of}
use Rattle.key_machine.specs.ShortOuts.{out_with, short_of}
use Rattle.key_tables.specs.Tables.{Tables}

pub whole_short : (tables : Tables) (bytes : List ℕ) → out_with tables (short_of bytes) ≡ out_of bytes
whole_short tables [] = refl
whole_short tables (b ∷ bytes) = refl

pub ruleset outs = (whole_short)
