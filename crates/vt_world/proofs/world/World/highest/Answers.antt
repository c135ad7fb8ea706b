use Rattle.std.proofs.Common.{◌-◌, ℕ, map, Some, None, sym, ap, ◌∙◌}
use Rattle.std.specs.List.{find}
use Rattle.std.specs.Prelude.{if◌then◌else◌}
use Rattle.vt_switch.specs.Display.{is_allocated}
use Rattle.vt_world.proofs.Requests.{found_here, found_later, range_first}
use Rattle.vt_world.proofs.world.World.highest.Goals as goal

pub returns-then-is_some : goal.returns-then-is_some
returns-then-is_some c =
    let p = is_allocated c.args.self.now.display in
    let k : ℕ = c.loop-k.k in
    let high : ℕ = c.args.high in
    found_here p (high - k) _ c.if_allocated-c.result (c.if_allocated-c.ensures ∙ ap (λ n. if p n then Some n else None) c.numbered.ensures)
    (sym c.is_some.ensures ∙ c.if-is_some.true)
    ∙ ap (λ ns. find p (map (λ j. high - j) ns))
    (sym (range_first k k c.args.len c.loop-k-test.true))
    ∙ c.loop-k.invariant

pub loop-k-preserved : goal.loop-k-preserved
loop-k-preserved c =
    let p = is_allocated c.args.self.now.display in
    let k : ℕ = c.loop-k.k in
    let high : ℕ = c.args.high in
    sym (found_later p (high - k) _ c.if_allocated-c.result (c.if_allocated-c.ensures ∙ ap (λ n. if p n then Some n else None) c.numbered.ensures)
    (sym c.is_some.ensures ∙ c.if-is_some.false))
    ∙ ap (λ ns. find p (map (λ j. high - j) ns))
    (sym (range_first k k c.args.len c.loop-k-test.true))
    ∙ c.loop-k.invariant
