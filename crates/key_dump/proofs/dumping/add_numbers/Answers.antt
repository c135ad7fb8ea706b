use Rattle.std.proofs.Common.{◌++◌, ◌∙◌, List, ℕ, ap, sym, decimal, map, arith}
use Rattle.std.specs.List.{join_with_byte}
use Rattle.key_tables.specs.Tables.{exists_in}
use Rattle.key_dump.proofs.Adding.{numbered_no, numbered_start, numbered_yes, numbers_all}
use Rattle.key_dump.proofs.dumping.add_numbers.Goals as goal

pub loop-t-init : goal.loop-t-init
loop-t-init c = numbered_start (exists_in c.args.tables.now) c.args.text.now.bytes

pub loop-t-preserved-then-exists : goal.loop-t-preserved-then-exists
loop-t-preserved-then-exists c =
    numbered_yes (exists_in c.args.tables.now) c.args.text.now.bytes c.loop-t.text.bytes c.add_comma.new.text.bytes c.add_decimal.new.self.bytes c.loop-t.some c.loop-t.t c.loop-t.invariant
    (sym c.exists.ensures.value ∙ c.if-exists.true) c.in_ok-add_comma.ensures c.in_ok-add_decimal.ensures

pub loop-t-preserved : goal.loop-t-preserved
loop-t-preserved c =
    numbered_no (exists_in c.args.tables.now) c.args.text.now.bytes c.loop-t.text.bytes c.loop-t.some c.loop-t.t c.loop-t.invariant
    (sym c.exists.ensures.value ∙ c.if-exists.false)

pub returns : goal.returns
returns c =
    c.loop-t.invariant.text
    ∙ ap (λ (ns : List ℕ). c.args.text.now.bytes ++ join_with_byte 0x2C (map decimal ns)) (numbers_all c.args.tables.now c.loop-t.t (omega arith))
