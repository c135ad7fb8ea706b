use Rattle.std.proofs.Common.{◌≡◌, [], length}
use Rattle.std.specs.List.{All}
use Rattle.session_text.specs.Walks.{Stands}
use Rattle.session_text.specs.declared.program.Program.{Program}
use Rattle.session_order.proofs.session_progress.first_walks.Given as goal

abbrev pub invariant-loop-caller : goal.invariant-loop-caller
invariant-loop-caller l = record {
  many : length l.walks.items ≡ l._caller;
  stand : All (λ walk. (p : Program) → Stands p walk []) l.walks.items;
}
