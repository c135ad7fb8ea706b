use Rattle.std.proofs.Common.{◌==◌, cond, None, ap}
use Rattle.key_compile.specs.Entries.{by_symbols, action_of_table}
use Rattle.key_compile.proofs.Steps.{by_symbols_many, puts_same}
use Rattle.key_compile.proofs.entries.put_symbols.Goals as goal

pub returns-else-actions-eq1 : goal.returns-else-actions-eq1
returns-else-actions-eq1 c =
    puts_same (λ t d. cond (d == c.args.code) (action_of_table c.args.union.now c.args.actions.now t) None) (λ t d. cond (d == c.args.code) (by_symbols c.args.union.now c.args.actions.now t) None) c.args.tables.now c.put_paired.new.tables
    (λ t d. ap (λ x. cond (d == c.args.code) x None) (by_symbols_many c.args.union.now c.args.actions.now t c.if-actions-eq1.false)) c.put_paired.ensures
