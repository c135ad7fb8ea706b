use Rattle.std.proofs.Common.{◌≤◌, arith, subst}
use Rattle.std.specs.List.{All}
use Rattle.std.proofs.lemmas.List.{take_all}
use Rattle.vt_base.specs.Limits.{processes}
use Rattle.vt_events.specs.declared.entry.Entry.{Entry}
use Rattle.vt_journal.proofs.Lines.{all_more}
use Rattle.vt_journal.proofs.callers.are_numbered.Goals as goal

pub loop-entry-preserved : goal.loop-entry-preserved
loop-entry-preserved c =
    all_more (λ (entry : Entry). entry.caller ≤ processes) c.args.entries.now c.loop-entry.entry-index
    c.entry-item.result c.loop-entry-test.true c.entry-item.is c.loop-entry.invariant (grind arith)

pub returns-clause-yes : goal.returns-clause-yes
returns-clause-yes c =
    subst (All (λ (entry : Entry). entry.caller ≤ processes))
    (take_all c.loop-entry.entry-index c.args.entries.now c.loop-entry-test.false) c.loop-entry.invariant
