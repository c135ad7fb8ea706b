-- Pairs of compose keys as bytes (ioctl_console(2), KDGKBDIACRUC). That a call holds them without
-- their count in front is this project's own.
use Rattle.std.specs.Prelude.{ℕ, ◌+◌, ◌*◌, ◌/◌, ◌%◌, ◌==◌, ◌&&◌, Bool, nat_le, List, ◌++◌, length, map, Option, Some, None, if◌then◌else◌}
use Rattle.std.specs.Int.{to_le_bytes, w32}
use Rattle.std.specs.List.{flat_map, list_all, range_with_len}
use Rattle.call_bytes.specs.Numbers.{is_number_at, number_at}
use Rattle.key_syms.specs.declared.pair.Pair.{Pair}

-- the accent, the base and the result, each in four bytes, the lowest first
abbrev pub pair_bytes : Pair → List ℕ
pair_bytes pair =
    to_le_bytes w32 pair.accent ++ to_le_bytes w32 pair.base ++ to_le_bytes w32 pair.result

abbrev pub pairs_text : List Pair → List ℕ
pairs_text pairs = flat_map pair_bytes pairs

abbrev pub is_pair_at : List ℕ → ℕ → Bool
is_pair_at bytes k =
    is_number_at bytes (12 * k) && is_number_at bytes (12 * k + 4) && is_number_at bytes (12 * k + 8)

abbrev pub pair_at : List ℕ → ℕ → Pair
pair_at bytes k = record {
  accent = number_at bytes (12 * k);
  base = number_at bytes (12 * k + 4);
  result = number_at bytes (12 * k + 8);
}

-- the places of pairs in so many bytes
abbrev pub pair_places : List ℕ → List ℕ
pair_places bytes = range_with_len 0 (length bytes / 12)

-- the bytes are those of at most 256 pairs
abbrev pub are_pairs : List ℕ → Bool
are_pairs bytes =
    nat_le (length bytes) 3072 && length bytes % 12 == 0
    && list_all (is_pair_at bytes) (pair_places bytes)

-- the pairs whose bytes these are
abbrev pub pairs_in : List ℕ → Option (List Pair)
pairs_in bytes = if are_pairs bytes then Some (map (pair_at bytes) (pair_places bytes)) else None
