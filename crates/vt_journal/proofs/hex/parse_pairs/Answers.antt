use Rattle.std.proofs.Common.{◌<◌, ◌^◌, subst, sym, arith, rules}
use Rattle.std.specs.List.{All}
use Rattle.vt_journal.proofs.Pairs.{no_hex, hex_more, All_more}
use Rattle.vt_journal.proofs.hex.parse_pairs.Goals as goal

pub returns-in_default-clause-finds : goal.returns-in_default-clause-finds
returns-in_default-clause-finds c =
    λ bytes fit is.
    no_hex c.args.word.now bytes c.loop-i.i c.loop-i-test.true fit is c.in_default.ensures

pub loop-i-preserved : goal.loop-i-preserved
loop-i-preserved c =
    let fit : c.in-Some.b < 2 ^ 8 = search rules in (
      rw c.push.ensures.bytes
          (hex_more c.args.word.now c.loop-i.bytes.bytes c.loop-i.i c.in-Some.b (omega arith)
          c.loop-i.invariant.0 c.in-Some.ensures),
      subst (All (λ x. x < 2 ^ 8)) (sym c.push.ensures.bytes)
          (All_more c.loop-i.bytes.bytes c.in-Some.b fit c.loop-i.invariant.1),
      omega arith,
    )
