use Rattle.std.proofs.Common.{◌≤◌, take}
use Rattle.std.specs.List.{All}
use Rattle.vt_events.specs.declared.entry.Entry.{Entry}
use Rattle.vt_base.specs.Limits.{processes}
use Rattle.vt_journal.proofs.callers.are_numbered.Given as goal

abbrev pub invariant-loop-entry : goal.invariant-loop-entry
invariant-loop-entry l =
    All (λ (entry : Entry). entry.caller ≤ processes) (take l.entry-index l.entries)
