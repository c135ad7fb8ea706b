use Rattle.std.proofs.Common.{◌≡◌, ℕ, ℤ, ◌+◌, ◌∷◌, [], ◌++◌, true, Result, Ok, pos, get_or, drop, rules, length, min, ap, subst, sym, ◌∙◌, arith}
use Rattle.std.proofs.lemmas.List.{length-append}
use Rattle.std.proofs.lemmas.List.Elements.{All-append, All-cons, All-nil}
use Rattle.std.specs.List.{All}
use Rattle.table_fields.specs.Checked.{collect, fault}
use Rattle.table_fields.specs.declared.fault.TableFault.{TableFault}
use Rattle.session_text.specs.Collected.{TurnsSoFar}
use Rattle.session_text.specs.Turns.{is_there, turn_in}
use Rattle.session_text.proofs.Turning.{turn_low, turn_there, turns_end, turns_more}
use Rattle.session_text.proofs.turns.turn_bytes.Goals as goal

pub loop-i-preserved : goal.loop-i-preserved
loop-i-preserved c =
    let (room, many, all, so_far) = c.loop-i.invariant in
    let f : ℕ → ℤ → Result ℕ TableFault = λ n z. turn_in c.args.processes c.args.keyboards (fault 28 0 n) z in
    let value : f (c.loop-i.i + 1) (get_or c.args.numbers.now c.loop-i.i (pos 0)) ≡ Ok c.in_ok-turn.turn =
    search rules in
    let made = c.append.ensures.bytes ∙ ap (λ n. c.loop-i.bytes.bytes ++ n ∷ []) c.min.ensures in
    let longer : length c.append.new.self.bytes ≡ length c.loop-i.bytes.bytes + 1 =
    ap length c.append.ensures.bytes ∙ length-append c.loop-i.bytes.bytes (c.min.result ∷ []) in (
      omega (arith, c.append.ensures.room, room),
      longer ∙ ap (λ n. n + 1) many,
      subst (All (λ t. is_there c.args.processes c.args.keyboards t ≡ true)) (sym made)
          (All-append (λ t. is_there c.args.processes c.args.keyboards t ≡ true) c.loop-i.bytes.bytes _ all
          (All-cons (λ t. is_there c.args.processes c.args.keyboards t ≡ true) (min c.in_ok-turn.turn 67) []
          (turn_there c.args.processes c.args.keyboards c.in_ok-turn.turn c.requires.some c.in_ok-turn.ensures.there)
          (All-nil (λ t. is_there c.args.processes c.args.keyboards t ≡ true)))),
      subst
          (λ bytes.
          TurnsSoFar c.args.processes bytes
          (collect f (c.loop-i.i + 1 + 1) (drop (c.loop-i.i + 1) c.args.numbers.now))
          (collect f 1 c.args.numbers.now)) (sym made)
          (turns_more c.args.processes c.loop-i.i c.loop-i.bytes.bytes f c.args.numbers.now _ (pos 0)
          c.in_ok-turn.turn c.loop-i-test.true so_far value
          (turn_low c.args.processes c.args.keyboards c.in_ok-turn.turn c.requires.some c.in_ok-turn.ensures.there)),
    )

pub returns-clause-turns : goal.returns-clause-turns
returns-clause-turns c =
    let (room, many, all, so_far) = c.loop-i.invariant in
    let f : ℕ → ℤ → Result ℕ TableFault = λ n z. turn_in c.args.processes c.args.keyboards (fault 28 0 n) z in
    let (turns, is, are) = turns_end c.args.processes c.loop-i.i _ f _ _ (omega arith) so_far in
    (turns, is, (omega (arith, many, room), are))
