use Rattle.std.proofs.Common.{◌-◌, arith}
use Rattle.std.proofs.lemmas.List.{get_or-replicate}
use Rattle.sig_hooks.specs.declared.act.Act.TheVariants.{Nothing}
use Rattle.sig_hooks.proofs.hook_table.HookTable.empty.Goals as goal

pub returns-clause-each : goal.returns-clause-each
returns-clause-each c = λ n low high.
    get_or-replicate 64 (n - 1) Nothing Nothing (omega (arith, low, high))
