-- How far the callers of a session are after a history. This project's own.
use Rattle.std.specs.Prelude.{◌≡◌, ℕ, ◌≤◌, ◌==◌, List, length, count_by, map, Some, slice_index, slice_index_or}
use Rattle.session_order.specs.Calls.{as_meant, calls_by}
use Rattle.session_text.specs.Programs.{Call, program_of}
use Rattle.session_text.specs.Walks.{Place, Stands}
use Rattle.session_text.specs.declared.program.Program.{Program}
use Rattle.vt_base.specs.Limits.{callers, greatest_caller}
use Rattle.vt_events.specs.declared.entry.Entry.{Entry}

-- the view that contracts have of `SessionProgress`, by the callers' numbers: the place of each caller's walk,
-- and how many calls each made
pub record SessionProgressView : Type 0 where
  pub walks : List Place
  pub counts : List ℕ

-- the walk stands after these calls, without their spare room
pub record IsWalkAfter (program : Program) (walk : Place) (made : List Call) : Type 0 where
  pub calls : List Call
  pub stands : Stands program walk calls
  pub meant : map as_meant calls ≡ made

-- the places of the callers of these programs after a history
pub record AreAfter (programs : List Program) (history : List Entry) (s : SessionProgressView) : Type 0 where
  pub walks : length s.walks ≡ callers
  pub stand :
      (q : ℕ) (program : Program) (walk : Place) → q ≤ greatest_caller
      → program_of programs q ≡ Some program → walk ≡ slice_index_or s.walks q walk
      → IsWalkAfter program walk (calls_by q history)
  pub places : length s.counts ≡ callers
  pub counted :
      (q : ℕ) → q ≤ greatest_caller
      → slice_index s.counts q ≡ count_by (λ entry. entry.caller == q) history
