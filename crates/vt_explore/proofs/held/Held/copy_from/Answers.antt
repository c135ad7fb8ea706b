use Rattle.std.proofs.Common.{ap, ◌∙◌}
use Rattle.vt_explore.proofs.Holding.{same_tables, seen_copied}
use Rattle.vt_explore.specs.Held.{HeldState}
use Rattle.vt_explore.proofs.held.Held.copy_from.Goals as goal

pub returns : goal.returns
returns c = λ o here there. λ i. record {
  order = (c.in_ok-copy_from.ensures ∙ ap (λ (held : HeldState). held.order) c.other.view_is) i;
  position =
      seen_copied c.args.self.now.position c.args.other.now.position c.deref_mut.result.now c.position.result.now
      c.copy_from-2.new.self (c.deref_mut.ensures.value ∙ ap (λ (held : HeldState). held.position) c.self.view_is)
      c.position.ensures c.in_ok-copy_from-2.ensures
      (same_tables o c.args.self.now c.args.other.now here there) i;
}
