use Rattle.std.proofs.Common.{◌≡◌, ◌+◌, ◌-◌, ℕ, Some, None, sym, ap, ◌∙◌, arith}
use Rattle.std.specs.List.{find, range_with_len}
use Rattle.std.specs.Prelude.{if◌then◌else◌}
use Rattle.vt_switch.specs.Display.{is_allocated}
use Rattle.vt_world.proofs.Requests.{found_here, found_later, range_first}
use Rattle.vt_world.proofs.world.World.lowest.Goals as goal

pub returns-then-is_some : goal.returns-then-is_some
returns-then-is_some c =
    let p = is_allocated c.args.self.now.display in
    let from : ℕ = c.args.low + c.loop-k.k in
    found_here p from _ c.if_allocated-c.result (c.if_allocated-c.ensures ∙ ap (λ n. if p n then Some n else None) c.numbered.ensures)
    (sym c.is_some.ensures ∙ c.if-is_some.true)
    ∙ ap (find p) (sym (range_first from c.loop-k.k c.args.len c.loop-k-test.true))
    ∙ c.loop-k.invariant

pub loop-k-preserved : goal.loop-k-preserved
loop-k-preserved c =
    let p = is_allocated c.args.self.now.display in
    let k : ℕ = c.loop-k.k in
    let from : ℕ = c.args.low + k in
    let next : c.args.low + (k + 1) ≡ from + 1 = omega arith in
    ap (λ n. find p (range_with_len n (c.args.len - (k + 1)))) next
    ∙ sym (found_later p from _ c.if_allocated-c.result (c.if_allocated-c.ensures ∙ ap (λ n. if p n then Some n else None) c.numbered.ensures)
    (sym c.is_some.ensures ∙ c.if-is_some.false))
    ∙ ap (find p) (sym (range_first from k c.args.len c.loop-k-test.true))
    ∙ c.loop-k.invariant
