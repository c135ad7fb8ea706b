-- The parts of a session on the way to it. No public clause names this.
use Rattle.std.specs.Prelude.{◌≡◌, ◌+◌, ◌≤◌, true, List, ◌∷◌, ◌++◌, length, map, String}
use Rattle.std.specs.List.{All}
use Rattle.std.specs.BTreeMap.{BTreeMap}
use Rattle.std.specs.Borrow.{Bor}
use Rattle.std.specs.declared.alloc.Global.{Global}
use Rattle.toml.specs.View.{table_view}
use Rattle.toml.specs.declared.value.Value.{Value}
use Rattle.table_fields.specs.Fields.{most_scan_bytes}
use Rattle.vt_base.specs.Bytes.{Text}
use Rattle.vt_events.specs.Kinds.{text}
use Rattle.session_text.specs.Keyboards.{IsKeyboardOf}
use Rattle.session_text.specs.Openings.{IsOpening}
use Rattle.session_text.specs.Scripts.{IsScript}
use Rattle.session_text.specs.Sessions.{SessionValue, SessionView, script_of}
use Rattle.session_text.specs.Turns.{is_there, most_turns}
use Rattle.session_text.specs.Tops.{Top}
use Rattle.session_text.specs.declared.parts.SessionParts.{SessionParts}
use Rattle.session_text.specs.declared.process.Process.{Process}
use Rattle.session_text.specs.declared.tops.SessionTable.{SessionTable as CodeTop}
use Rattle.session_text.specs.declared.program.Program.TheVariants as programs

-- the scan bytes of further keyboards
pub record IsFitFurther (further : List Text) : Type 0 where
  pub many : length further ≤ 3
  pub keys : All (λ (keys : Text). length keys.bytes ≤ most_scan_bytes) further

-- a session can be made of these parts
pub record AreFit (parts : SessionParts) : Type 0 where
  pub opening : IsOpening parts.opening
  pub keys : length parts.keyboard.keys.bytes ≤ most_scan_bytes
  pub turns :
      All (λ t. is_there (length parts.processes.items) (length parts.further.items + 1) t ≡ true) parts.turns.bytes
  pub few_turns : length parts.turns.bytes ≤ most_turns
  pub processes : length parts.processes.items ≤ 64
  pub scripts : All (λ (process : Process). IsScript process.items) parts.processes.items
  pub further : IsFitFurther parts.further.items

-- the keys of a session's table except its processes, as code reads them
pub record IsTop (code : CodeTop) (top : Top) : Type 0 where
  pub opening : code.opening ≡ top.opening
  pub keyboard : IsKeyboardOf code.keyboard top.typed
  pub turns : code.turns.bytes ≡ top.turns
  pub tables : map (λ (table : Bor (BTreeMap (String Global) Value)). table_view table.now) code.tables.items ≡ top.tables
  pub further : code.further.items ≡ map text top.further

-- the bounds that the code's values of these keys keep
pub record IsFitTop (code : CodeTop) : Type 0 where
  pub opening : IsOpening code.opening
  pub keys : length code.keyboard.keys.bytes ≤ most_scan_bytes
  pub turns :
      All (λ t. is_there (length code.tables.items) (length code.further.items + 1) t ≡ true) code.turns.bytes
  pub few_turns : length code.turns.bytes ≤ most_turns
  pub tables : length code.tables.items ≤ 64
  pub further : IsFitFurther code.further.items

-- the parts are those of a value
pub record AreOf (parts : SessionParts) (value : SessionValue) : Type 0 where
  pub opening : parts.opening ≡ value.opening
  pub keyboard : IsKeyboardOf parts.keyboard value.typed
  pub turns : parts.turns.bytes ≡ value.turns
  pub processes : parts.processes.items ≡ value.processes
  pub further : parts.further.items ≡ map text value.further

-- the session has these parts
pub record IsMadeOf (parts : SessionParts) (s : SessionView) : Type 0 where
  pub rows : s.config.size.rows ≡ parts.opening.rows
  pub cols : s.config.size.cols ≡ parts.opening.cols
  pub consoles : s.config.consoles ≡ parts.opening.consoles
  pub front : s.config.front ≡ parts.opening.front
  pub events : s.limits.events ≡ parts.opening.events
  pub bytes : s.limits.bytes ≡ parts.opening.bytes
  pub tables : s.tables ≡ parts.keyboard.tables
  pub turns : s.turns ≡ parts.turns.bytes
  pub starts : s.config.procs ≡ map (λ (process : Process). process.start) parts.processes.items
  pub keyboards : s.config.keyboards ≡ length parts.further.items + 1
  pub programs :
      s.programs
      ≡ programs.Keys parts.keyboard.keys ∷ map script_of parts.processes.items
      ++ map (λ keys. programs.Keys keys) parts.further.items
