use Rattle.std.proofs.Common.{◌≡◌, ◌<◌, ℕ, length, get_or}
use Rattle.scan_codes.specs.Start.{start_code}
use Rattle.scan_codes.proofs.scanner.Scanner.start.Given as goal

abbrev pub invariant-loop-scan : goal.invariant-loop-scan
invariant-loop-scan l =
    (length l.codes ≡ 256) × ((k : ℕ) → k < l.scan → get_or l.codes k 0 ≡ start_code k)
