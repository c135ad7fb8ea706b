use Rattle.std.proofs.Common.{◌<◌, ◌∷◌, ◌++◌, [], ℕ, length, take, sym, ap, ◌∙◌, arith, rules}
use Rattle.std.proofs.lemmas.List.{take_all, take_more}
use Rattle.vt_journal.proofs.Digits.{decimal_more, one_digit}
use Rattle.vt_journal.proofs.numbers.short_number.Goals as goal

pub returns-then-word-eq1 : goal.returns-then-word-eq1
returns-then-word-eq1 c =
    one_digit c.args.word.now c.in_ok-n.n (search rules) c.in_ok-n.ensures.0 c.in_ok-n.ensures.1
    ∙ take_all 1 c.args.word.now (omega arith)

pub loop-i-init : goal.loop-i-init
loop-i-init c = (
  one_digit c.args.word.now c.in_ok-n.n (search rules) c.in_ok-n.ensures.0 c.in_ok-n.ensures.1,
  omega arith,
)

pub loop-i-preserved : goal.loop-i-preserved
loop-i-preserved c =
    let word = c.args.word.now in
    let within : c.loop-i.i < length word = omega arith in (
      decimal_more c.loop-i.n c.in_ok-next.next (take c.loop-i.i word) c.loop-i.invariant.1 (omega arith)
          c.in_ok-next.ensures.0 c.loop-i.invariant.0
          ∙ ap (λ (b : ℕ). take c.loop-i.i word ++ b ∷ []) (sym c.in_ok-next.ensures.1)
          ∙ sym (take_more word c.loop-i.i 0 within),
      omega arith,
    )

pub returns : goal.returns
returns c = c.loop-i.invariant.0 ∙ take_all c.loop-i.i c.args.word.now (omega arith)
