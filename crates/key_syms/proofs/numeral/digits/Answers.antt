use Rattle.std.proofs.Common.{◌*◌, ◌+◌, ℕ, sym, subst, take}
use Rattle.key_syms.proofs.Digits.{IsRead, read_more, number_in_base_stops}
use Rattle.key_syms.proofs.numeral.digits.Goals as goal

pub returns-in-None : goal.returns-in-None
returns-in-None c =
    number_in_base_stops c.args.base c.loop-b.invariant.0 c.loop-b.number c.args.text.now c.loop-b.b-index c.loop-b.invariant.1 c.loop-b-test.true (sym c.in-None.ensures.value)

pub loop-b-preserved : goal.loop-b-preserved
loop-b-preserved c =
    let n = c.loop-b.invariant.0 * c.args.base + c.in-Some.value in (
      n,
      subst (λ (kept : ℕ). IsRead c.args.base (take (c.loop-b.b-index + 1) c.args.text.now) n kept) (sym c.min-number.ensures)
          (read_more c.args.base c.loop-b.invariant.0 c.loop-b.number c.args.text.now c.loop-b.b-index c.in-Some.value c.loop-b.invariant.1 c.loop-b-test.true c.requires.some (sym c.in-Some.ensures.value)),
    )
