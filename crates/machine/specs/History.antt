-- The start of a machine, and the history of its calls. This project's own.
use Rattle.std.specs.Prelude.{◌≡◌, ◌<◌, ◌≤◌, ℕ, ◌==◌, List, count_by, length, slice_index_or}
use Rattle.key_tables.specs.Tables.{Tables}
use Rattle.vt_base.specs.ConsoleSet.{IsFitSet}
use Rattle.vt_events.specs.declared.entry.Entry.{Entry}
use Rattle.vt_procs.specs.Callers.{IsFitCount}
use Rattle.vt_procs.specs.declared.config.Config.{Config}
use Rattle.vt_world.specs.History.{Leaves}
use Rattle.vt_world.specs.Start.{start_world}
use Rattle.vt_world.specs.State.{WorldState}

-- how a machine starts
pub record Start : Type 0 where
  pub config : Config
  pub tables : Tables

-- the world at the start
abbrev pub world_of : Start → WorldState
world_of s =
    start_world s.config.size.rows s.config.size.cols s.config.consoles s.config.front s.config.keyboards
    s.config.procs s.tables

-- how many of these calls the caller made
abbrev pub calls_of : List Entry → ℕ → ℕ
calls_of history p = count_by (λ entry. entry.caller == p) history

-- a possible start
pub record IsFitStart (s : Start) : Type 0 where
  pub consoles : IsFitSet s.config.consoles s.config.front
  pub keyboards : IsFitCount s.config.keyboards
  pub processes : length s.config.procs ≤ 64

-- from this start, these calls are a legal history that leaves this world, and each caller made so many of them
pub record IsAfter (s : Start) (history : List Entry) (world : WorldState) (made : List ℕ) : Type 0 where
  pub fit : IsFitStart s
  pub left : Leaves (world_of s) history world
  pub counted : (p : ℕ) → p < 68 → slice_index_or made p 0 ≡ calls_of history p
