use Rattle.std.proofs.Common.{◌≡◌, ◌<◌, ℕ, length, get_or}
use Rattle.vt_chars.specs.CharMap.{font_place}
use Rattle.vt_chars.proofs.char_map.CharMap.start.Given as goal

abbrev pub invariant-loop-b : goal.invariant-loop-b
invariant-loop-b l = (length l.user ≡ 256) × ((k : ℕ) → k < l.b → get_or l.user k 0 ≡ font_place k)
