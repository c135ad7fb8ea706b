-- A judge on its way through a journal. No public clause names this.
use Rattle.std.specs.Prelude.{◌≡◌, ◌<◌, ◌==◌, ℕ, List, count_by, length, slice_index_or}
use Rattle.vt_events.specs.declared.entry.Entry.{Entry}
use Rattle.vt_free.specs.declared.free_judge.FreeJudge.{FreeJudge}
use Rattle.vt_journal.specs.Log.{charge_of_all}
use Rattle.vt_world.specs.History.{Leaves}
use Rattle.vt_world.specs.State.{WorldState}

-- the judge has taken these entries, which are a legal history of this start
pub record IsAfter (start : WorldState) (history : List Entry) (j : FreeJudge) : Type 0 where
  pub left : Leaves start history j.world
  pub size : length j.made ≡ 68
  pub made : (p : ℕ) → p < 68 → slice_index_or j.made p 0 ≡ count_by (λ entry. entry.caller == p) history
  pub events : j.events ≡ length history
  pub bytes : j.bytes ≡ charge_of_all history
