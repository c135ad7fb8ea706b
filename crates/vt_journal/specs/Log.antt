-- A log: entries within limits. This project's own.
use Rattle.std.specs.Prelude.{◌≡◌, ℕ, ◌≤◌, List, length}
use Rattle.std.specs.List.{sum_by}
use Rattle.vt_events.specs.Charge.{charge_of}
use Rattle.vt_events.specs.declared.entry.Entry.{Entry}
use Rattle.vt_journal.specs.declared.limits.Limits.{Limits}

-- the model of `Log`: its entries in order, and its limits
pub record Logged : Type 0 where
  pub entries : List Entry
  pub limits : Limits

-- the sum of the charges of entries
abbrev pub charge_of_all : List Entry → ℕ
charge_of_all entries = sum_by (λ entry. charge_of entry.event) entries

-- a log's entries are within its limits, for which there is room, and the sum of their charges is kept
pub record IsLog (log : Logged) (capacity kept : ℕ) : Type 0 where
  pub sum : kept ≡ charge_of_all log.entries
  pub room : log.limits.events ≤ capacity
  pub entries : length log.entries ≤ log.limits.events
  pub bytes : charge_of_all log.entries ≤ log.limits.bytes
  pub most_entries : log.limits.events ≤ 1_000_000
  pub most_bytes : log.limits.bytes ≤ 1_073_741_824
