use Rattle.std.proofs.Common.{IsTrue, subst}
use Rattle.key_syms.specs.Act.{Act, is_action}
use Rattle.key_tables.proofs.Entries.{put_map}
use Rattle.key_tables.proofs.table.Table.put.Goals as goal

pub invariant_of-self : goal.invariant_of-self
invariant_of-self c =
    put_map c.self.inside.entries.items c.args.c c.from.result c.args.a c.from.ensures c.requires
    (subst (λ (a : Act). IsTrue (is_action a.kind a.value)) c.a.view_is c.a.invariant) c.self.invariant

pub returns-clause-whole : goal.returns-clause-whole
returns-clause-whole c =
    put_map c.self.inside.entries.items c.args.c c.from.result c.args.a c.from.ensures c.requires
    (subst (λ (a : Act). IsTrue (is_action a.kind a.value)) c.a.view_is c.a.invariant) c.self.invariant
