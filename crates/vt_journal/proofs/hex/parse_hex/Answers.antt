use Rattle.std.proofs.Common.{length, ap, sym, arith, rules}
use Rattle.std.proofs.lemmas.Bool.{eqb-true}
use Rattle.vt_journal.proofs.Pairs.{finds_hex, hex_some, length_hex, no_dash}
use Rattle.vt_journal.proofs.hex.parse_hex.Goals as goal

pub returns-then-is_empty-clause-finds : goal.returns-then-is_empty-clause-finds
returns-then-is_empty-clause-finds c =
    λ bytes fit is.
    let word = c.args.word.now in
    let some = hex_some word bytes (no_dash word _ c.as_slice.ensures c.if-eq.ensures) is in
    let empty = eqb-true (length word) 0 (sym c.if-is_empty.ensures) in
    omega (arith, some.0, length_hex bytes, ap length some.1, empty)

pub returns-then-word-ne0-clause-finds : goal.returns-then-word-ne0-clause-finds
returns-then-word-ne0-clause-finds c =
    λ bytes fit is.
    let word = c.args.word.now in
    let some = hex_some word bytes (no_dash word _ c.as_slice.ensures c.if-eq.ensures) is in
    c.if-word-ne0.true (omega (arith, some.0, length_hex bytes, ap length some.1))

pub returns-clause-finds : goal.returns-clause-finds
returns-clause-finds c =
    let word = c.args.word.now in
    finds_hex _ word c.parse_pairs.result (search rules) (no_dash word _ c.as_slice.ensures c.if-eq.ensures)
    c.parse_pairs.ensures.finds
