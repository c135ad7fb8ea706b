use Rattle.std.proofs.Common.{◌≡◌, Bor, BTreeMap, String, Global, length}
use Rattle.std.specs.List.{All}
use Rattle.toml.specs.View.{table_view}
use Rattle.toml.specs.declared.value.Value.{Value}
use Rattle.session_text.specs.Scripts.{IsScript, process_says}
use Rattle.session_text.specs.declared.process.Process.{Process}
use Rattle.session_text.proofs.Saying.{SoFar}
use Rattle.session_text.proofs.process_fields.processes.Given as goal

abbrev pub invariant-loop-i : goal.invariant-loop-i
invariant-loop-i l =
    (length l.found.items ≡ l.i)
    × All (λ (process : Process). IsScript process.items) l.found.items
    × SoFar process_says (λ (table : Bor (BTreeMap (String Global) Value)). table_view table.now) l.tables
    l.i l.found.items
