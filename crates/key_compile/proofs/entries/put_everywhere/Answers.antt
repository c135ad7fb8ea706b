use Rattle.std.proofs.Common.{◌==◌, ◌&&◌, ◌+◌, ◌∙◌, ℕ, cond, None, Some, ap, get_or, take}
use Rattle.std.proofs.lemmas.List.{take_all}
use Rattle.std.specs.Option.{option_or}
use Rattle.key_compile.specs.Entries.{everywhere}
use Rattle.key_compile.proofs.Steps.{everywhere_next, puts_next, puts_same}
use Rattle.key_compile.proofs.entries.put_everywhere.Goals as goal

pub loop-i-preserved : goal.loop-i-preserved
loop-i-preserved c =
    let before = λ (t d : ℕ). cond (d == c.args.code) (everywhere (take c.loop-i.i c.args.union.now) c.args.action t) None in
    let table = get_or c.args.union.now c.loop-i.i 0 in
    puts_next before (λ t d. cond (t == table && d == c.args.code) (Some c.filled_action.result) None) (λ t d. cond (d == c.args.code) (everywhere (take (c.loop-i.i + 1) c.args.union.now) c.args.action t) None) c.args.tables.now c.loop-i.tables c.put_one.new.tables
    (λ t d. ap (λ x. option_or (cond (t == table && d == c.args.code) (Some x) None) (before t d)) c.filled_action.ensures ∙ everywhere_next c.args.union.now c.args.action c.args.code c.loop-i.i c.loop-i-test.true t d)
    c.loop-i.invariant c.put_one.ensures

pub returns : goal.returns
returns c =
    puts_same (λ t d. cond (d == c.args.code) (everywhere (take c.loop-i.i c.args.union.now) c.args.action t) None) (λ t d. cond (d == c.args.code) (everywhere c.args.union.now c.args.action t) None) c.args.tables.now c.loop-i.tables
    (λ t d. ap (λ us. cond (d == c.args.code) (everywhere us c.args.action t) None) (take_all c.loop-i.i c.args.union.now c.loop-i-test.false)) c.loop-i.invariant
