use Rattle.std.proofs.Common.{◌≡◌, ◌+◌, ◌-◌, ℕ, Bool, Option, Some, cond, sym, ap, ◌∙◌, arith}
use Rattle.std.specs.List.{find, range_with_len}
use Rattle.std.specs.Prelude.{not}
use Rattle.vt_procs.specs.Callers.{is_opened}
use Rattle.vt_world.proofs.Requests.{range_first}
use Rattle.vt_world.proofs.world.World.first_unopened.Goals as goal

pub returns-then-not-is_opened : goal.returns-then-not-is_opened
returns-then-not-is_opened c =
    let p : ℕ → Bool = λ n. not (is_opened c.args.self.now.callers n) in
    let from : ℕ = c.args.low + c.loop-k.k in
    let rest : Option ℕ = find p (range_with_len (from + 1) (c.args.len - (c.loop-k.k + 1))) in
    ap (λ b. cond b (Some from) rest) (sym (ap not (ap (is_opened c.args.self.now.callers) (sym c.numbered.ensures) ∙ sym c.is_opened.ensures ∙ c.if-not-is_opened.true)))
    ∙ ap (find p) (sym (range_first from c.loop-k.k c.args.len c.loop-k-test.true))
    ∙ c.loop-k.invariant

pub loop-k-preserved : goal.loop-k-preserved
loop-k-preserved c =
    let p : ℕ → Bool = λ n. not (is_opened c.args.self.now.callers n) in
    let k : ℕ = c.loop-k.k in
    let from : ℕ = c.args.low + k in
    let rest : Option ℕ = find p (range_with_len (from + 1) (c.args.len - (k + 1))) in
    let next : c.args.low + (k + 1) ≡ from + 1 = omega arith in
    ap (λ n. find p (range_with_len n (c.args.len - (k + 1)))) next
    ∙ ap (λ b. cond b (Some from) rest) (sym (ap not (ap (is_opened c.args.self.now.callers) (sym c.numbered.ensures) ∙ sym c.is_opened.ensures ∙ c.if-not-is_opened.false)))
    ∙ ap (find p) (sym (range_first from k c.args.len c.loop-k-test.true))
    ∙ c.loop-k.invariant
