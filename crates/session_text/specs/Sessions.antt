-- Sessions: the start of a machine, the programs of its callers, and the text that defines them. This project's
-- own.
use Rattle.std.specs.Prelude.{◌≡◌, ℕ, ◌+◌, ◌≤◌, true, Option, Some, None, Result, Ok, List, [], ◌∷◌, ◌++◌, is_some, length, map, slice_get}
use Rattle.std.specs.List.{All}
use Rattle.key_compile.specs.Compiled.{AreTablesOf}
use Rattle.key_tables.specs.Tables.{Tables}
use Rattle.sig_hooks.specs.declared.act.Act.{Act}
use Rattle.table_fields.specs.Fields.{document_of, most_scan_bytes}
use Rattle.table_fields.specs.declared.fault.TableFault.{TableFault}
use Rattle.toml.specs.Data.{Members}
use Rattle.vt_base.specs.ConsoleSet.{IsFitSet}
use Rattle.vt_events.specs.Kinds.{text}
use Rattle.vt_journal.specs.declared.limits.Limits.{Limits}
use Rattle.vt_procs.specs.Callers.{IsFitCount}
use Rattle.vt_procs.specs.declared.config.Config.{Config}
use Rattle.session_text.specs.Keyboards.{Typed}
use Rattle.session_text.specs.Programs.{program_of}
use Rattle.session_text.specs.Says.{each_says, is, ◌>>=◌}
use Rattle.session_text.specs.Scripts.{IsScript, process_says}
use Rattle.session_text.specs.Tops.{top_of}
use Rattle.session_text.specs.Turns.{is_there, most_turns}
use Rattle.session_text.specs.declared.session_header.SessionHeader.{SessionHeader}
use Rattle.session_text.specs.declared.process.Process.{Process}
use Rattle.session_text.specs.declared.program.Program.{Program}
use Rattle.session_text.specs.declared.program.Program.TheVariants as programs

-- the view that contracts have of `Session`
pub record SessionView : Type 0 where
  pub config : Config
  pub tables : Tables
  pub limits : Limits
  pub turns : List ℕ
  pub programs : List Program

abbrev pub IsScriptProgram : Program → Type 0
IsScriptProgram (programs.Keys bytes) = ⊥
IsScriptProgram (programs.Script items acts) = IsScript items

abbrev pub IsKeysProgram : Program → Type 0
IsKeysProgram (programs.Keys bytes) = length bytes.bytes ≤ most_scan_bytes
IsKeysProgram (programs.Script items acts) = ⊥

-- the first keyboard's scan bytes, then a script for each of so many processes, and then the scan bytes of the
-- further ones of so many keyboards
pub record ArePrograms (processes keyboards : ℕ) (list : List Program) : Type 0 where
  pub first : Program
  pub scripts : List Program
  pub further : List Program
  pub are : list ≡ first ∷ scripts ++ further
  pub many_scripts : length scripts ≡ processes
  pub many_keys : length further + 1 ≡ keyboards
  pub each_script : All IsScriptProgram scripts
  pub each_keys : All IsKeysProgram (first ∷ further)

-- exactly the callers that are there have a program
abbrev pub CallersHavePrograms : Type 0
CallersHavePrograms =
    (processes keyboards : ℕ) (list : List Program) → processes ≤ 64 → ArePrograms processes keyboards list
    → (p : ℕ) → is_some (program_of list p) ≡ is_there processes keyboards p

-- the facts that hold of every session
pub record IsSession (s : SessionView) : Type 0 where
  pub fit : IsFitSet s.config.consoles s.config.front
  pub keyboards : IsFitCount s.config.keyboards
  pub events : s.limits.events ≤ 1000000
  pub bytes : s.limits.bytes ≤ 1073741824
  pub turns : All (λ t. is_there (length s.config.procs) s.config.keyboards t ≡ true) s.turns
  pub few_turns : length s.turns ≤ most_turns
  pub programs : ArePrograms (length s.config.procs) s.config.keyboards s.programs

abbrev pub acts_in : Option Program → List Act
acts_in None = []
acts_in (Some (programs.Keys bytes)) = []
acts_in (Some (programs.Script items acts)) = acts

-- the acts of process p
abbrev pub acts_of : SessionView → ℕ → List Act
acts_of s p = acts_in (slice_get s.programs p)

-- the values of a session's table
pub record SessionValue : Type 0 where
  pub opening : SessionHeader
  pub typed : Typed
  pub turns : List ℕ
  pub processes : List Process
  pub further : List (List ℕ)

-- a session's table: all keys except its processes, and then these, in the order of the checks
abbrev pub session_at : Members → Result SessionValue TableFault → Type 0
session_at members = do
  top ← is (top_of members)
  processes ← each_says process_says 1 top.tables
  is (Ok (record {
    opening = top.opening;
    typed = top.typed;
    turns = top.turns;
    processes = processes;
    further = top.further;
  }))

-- the meaning of a session text: its session, or its first fault
abbrev pub session_says : List ℕ → Result SessionValue TableFault → Type 0
session_says input = do
  members ← is (document_of input)
  session_at members

-- a text has one meaning
abbrev pub OneSession : Type 0
OneSession =
    (text : List ℕ) (a b : Result SessionValue TableFault)
    → session_says text a → session_says text b → a ≡ b

abbrev pub script_of : Process → Program
script_of process = programs.Script process.items process.hooks

abbrev pub keys_of : List ℕ → Program
keys_of bytes = programs.Keys (text bytes)

-- a session is the one of this value
pub record IsSessionOf (s : SessionView) (value : SessionValue) : Type 0 where
  pub rows : s.config.size.rows ≡ value.opening.rows
  pub cols : s.config.size.cols ≡ value.opening.cols
  pub consoles : s.config.consoles ≡ value.opening.consoles
  pub front : s.config.front ≡ value.opening.front
  pub events : s.limits.events ≡ value.opening.events
  pub bytes : s.limits.bytes ≡ value.opening.bytes
  pub tables : AreTablesOf value.typed.lines s.tables
  pub turns : s.turns ≡ value.turns
  pub starts : s.config.procs ≡ map (λ process. process.start) value.processes
  pub keyboards : s.config.keyboards ≡ length value.further + 1
  pub programs :
      s.programs
      ≡ keys_of value.typed.keys ∷ map script_of value.processes ++ map keys_of value.further
