-- A race that goes on. No public clause names this.
use Rattle.std.specs.Prelude.{◌≡◌, ℕ, ◌<◌, true, List, [], length, map, Some, None, slice_get, slice_index_or}
use Rattle.atomic_table.specs.Seated.{TableId}
use Rattle.session_order.specs.Calls.{call_of}
use Rattle.session_order.specs.Races.{HasNext, IsRun}
use Rattle.session_run.specs.Callers.{callers_in, has_program}
use Rattle.session_text.specs.Programs.{next, program_of}
use Rattle.session_text.specs.declared.program.Program.{Program}
use Rattle.turn_lock.specs.declared.seal.Seal.{Seal}
use Rattle.vt_hub.specs.Views.{PassView, StewardView, stand_at}
use Rattle.vt_hub.specs.declared.pass_place.PassPlace.TheVariants.{Unmade, Home}
use Rattle.vt_journal.specs.declared.full.Full.{Full}

-- the work of a worker: a run of its program, to the end or to the stop that it met, which is by its
-- next call if it is its own
pub record Works (program : Program) (q : PassView) : Type 0 where
  pub run : IsRun program q.mine
  pub over : q.stop ≡ None → next program (map call_of q.mine) ≡ None
  pub left :
      (z : Seal Full) → q.stop ≡ Some z → z.by ≡ q.number → HasNext program q.mine z.what.charge

-- a pass of this hub and number that made no call and met no stop
pub record IsFresh (here : TableId) (n : ℕ) (x : PassView) : Type 0 where
  pub own : x.hub ≡ here
  pub numbered : x.number ≡ n
  pub empty : x.mine ≡ []
  pub goes : x.stop ≡ None

-- a pass for each of these callers, in their order
abbrev pub AreFresh : TableId → List ℕ → List PassView → Type 0
AreFresh here callers passes =
    (i : ℕ) (x : PassView) → i < length passes → x ≡ slice_index_or passes i x
    → IsFresh here (slice_index_or callers i 0) x

-- k is none of the first n of these callers
abbrev pub IsNone : List ℕ → ℕ → ℕ → Type 0
IsNone callers n k = (i : ℕ) → i < n → slice_index_or callers i 0 ≡ k → ⊥

-- passes were made for the first n of these callers alone, and none was joined
pub record IsSplit (here : TableId) (callers : List ℕ) (n : ℕ) (s : StewardView) : Type 0 where
  pub own : s.hub ≡ here
  pub size : length s.stands ≡ 68
  pub rest : (k : ℕ) → IsNone callers n k → stand_at s.stands k ≡ Unmade
  pub none_home : s.joined ≡ []

-- the pass of caller n after the worker of that caller's program
pub record IsAfterWorker (programs : List Program) (here : TableId) (n : ℕ) (q : PassView) : Type 0 where
  pub own : q.hub ≡ here
  pub numbered : q.number ≡ n
  pub works : (program : Program) → program_of programs n ≡ Some program → Works program q

-- of the callers that have a program, the passes of the first n were joined, each as its worker left it
pub record AreHome (programs : List Program) (here : TableId) (n : ℕ) (s : StewardView) : Type 0 where
  pub own : s.hub ≡ here
  pub size : length s.stands ≡ 68
  pub home : (i : ℕ) → i < n → stand_at s.stands (slice_index_or (callers_in programs) i 0) ≡ Home
  pub rest :
      (k : ℕ) → IsNone (callers_in programs) (length (callers_in programs)) k
      → stand_at s.stands k ≡ Unmade
  pub ran :
      (place : ℕ) (x : PassView) → slice_get s.joined place ≡ Some x
      → (has_program programs x.number ≡ true) × IsAfterWorker programs here x.number x
  pub each :
      (i : ℕ) → i < n
      → (place : ℕ) × (x : PassView) × (slice_get s.joined place ≡ Some x)
      × (x.number ≡ slice_index_or (callers_in programs) i 0)

-- all these passes were joined
abbrev pub AreAllHome : List Program → TableId → StewardView → Type 0
AreAllHome programs here s = AreHome programs here (length (callers_in programs)) s
