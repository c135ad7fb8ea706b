use Rattle.std.proofs.Common.{◌∷◌, ◌++◌, [], refl, ap, arith}
use Rattle.vt_cells.proofs.Stated.{columns_are_few-low, columns_are_few-worked}
use Rattle.cooked.proofs.laws.worked_rows.Goals as goal
use Rattle.cooked.specs.Echo.{erase_echo}

pub returns-clause-erase : goal.returns-clause-erase
returns-clause-erase c =
    record {
      gives = refl;
      keeps = refl;
      echoes = ap (λ n. 0x61 ∷ 0x62 ∷ erase_echo n ++ 0x63 ∷ 0x0D ∷ 0x0A ∷ []) (columns_are_few-low 0x62 (omega arith) (omega arith));
    }

pub returns-clause-interrupt : goal.returns-clause-interrupt
returns-clause-interrupt c = record { gives = refl; keeps = refl; echoes = refl }

pub returns-clause-wide : goal.returns-clause-wide
returns-clause-wide c =
    record {
      gives = refl;
      keeps = refl;
      echoes = ap (λ n. 0xE4 ∷ 0xB8 ∷ 0xAD ∷ erase_echo n ++ []) columns_are_few-worked.han;
    }

pub returns-clause-parted : goal.returns-clause-parted
returns-clause-parted c =
    record {
      gives = refl;
      keeps = refl;
      echoes =
          ap (λ n. 0xE4 ∷ 0x61 ∷ erase_echo n ++ 0xB8 ∷ 0xAD ∷ 0x08 ∷ 0x20 ∷ 0x08 ∷ [])
          (columns_are_few-low 0x61 (omega arith) (omega arith));
    }
