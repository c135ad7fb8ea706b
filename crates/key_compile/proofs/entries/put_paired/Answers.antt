use Rattle.std.proofs.Common.{◌≡◌, ◌==◌, ◌&&◌, ◌+◌, ◌∙◌, ℕ, cond, None, Some, ap, get_or, take, arith}
use Rattle.std.specs.Option.{option_or}
use Rattle.key_compile.specs.Entries.{action_of_table}
use Rattle.key_compile.proofs.Steps.{paired_all, paired_next, puts_next, puts_same}
use Rattle.key_compile.proofs.entries.put_paired.Goals as goal

pub loop-i-preserved : goal.loop-i-preserved
loop-i-preserved c =
    let before = λ (t d : ℕ). cond (d == c.args.code) (action_of_table (take c.loop-i.i c.args.union.now) (take c.loop-i.i c.args.actions.now) t) None in
    let table = get_or c.args.union.now c.loop-i.i 0 in
    let bound : c.min-i-end.result ≡ _ = c.min-i-end.ensures in
    puts_next before (λ t d. cond (t == table && d == c.args.code) (Some c.index-actions-i.result) None) (λ t d. cond (d == c.args.code) (action_of_table (take (c.loop-i.i + 1) c.args.union.now) (take (c.loop-i.i + 1) c.args.actions.now) t) None) c.args.tables.now c.loop-i.tables c.put_one.new.tables
    (λ t d. ap (λ x. option_or (cond (t == table && d == c.args.code) (Some x) None) (before t d)) c.index-actions-i.is ∙ paired_next c.args.union.now c.args.actions.now c.args.code c.loop-i.i c.index-actions-i.result (omega (arith, c.loop-i-test.true, bound)) (omega (arith, c.loop-i-test.true, bound)) t d)
    c.loop-i.invariant c.put_one.ensures

pub returns : goal.returns
returns c =
    let bound : c.min-i-end.result ≡ _ = c.min-i-end.ensures in
    puts_same (λ t d. cond (d == c.args.code) (action_of_table (take c.loop-i.i c.args.union.now) (take c.loop-i.i c.args.actions.now) t) None) (λ t d. cond (d == c.args.code) (action_of_table c.args.union.now c.args.actions.now t) None) c.args.tables.now c.loop-i.tables
    (λ t d. ap (λ x. cond (d == c.args.code) x None) (paired_all c.args.union.now c.args.actions.now c.loop-i.i t (λ p q. omega (arith, p, q, bound, c.loop-i-test.false))))
    c.loop-i.invariant
