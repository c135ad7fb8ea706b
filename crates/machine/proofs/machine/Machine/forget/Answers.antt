use Rattle.std.proofs.Common.{rules, ◌≡◌, ◌+◌, List, ◌++◌, length, sym, ap, ◌∙◌, subst}
use Rattle.std.specs.Prelude.{min}
use Rattle.machine.specs.History.{IsAfter, Start}
use Rattle.vt_events.specs.declared.entry.Entry.{Entry}
use Rattle.vt_journal.specs.Log.{Logged}
use Rattle.machine.proofs.Continued.{after_forgetting, gone_more}
use Rattle.machine.proofs.machine.Machine.forget.Goals as goal

pub invariant_of-self : goal.invariant_of-self
invariant_of-self c =
    let s : Start = record { config = c.self.inside.config; tables = c.self.inside.tables } in
    let before : List Entry = c.self.invariant.before in
    let entries : List Entry = c.self.inside.log.entries in
    let gone : c.saturating_add-self-inside.result ≡ min (c.self.inside.gone + length entries) 18446744073709551615 =
    search rules in
    record {
      before = before ++ entries;
      size = gone ∙ gone_more before entries c.self.inside.gone c.self.invariant.size;
      after =
          subst (λ (l : List Entry). IsAfter s ((before ++ entries) ++ l) c.self.inside.world c.self.inside.made)
          (sym (ap (λ (l : Logged). l.entries) c.clear.ensures))
          (after_forgetting s before entries c.self.inside.world c.self.inside.made c.self.invariant.after);
    }
