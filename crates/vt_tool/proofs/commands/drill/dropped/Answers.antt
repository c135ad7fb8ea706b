use Rattle.std.proofs.Common.{◌≡◌, ◌+◌, ◌∙◌, ℕ, ap, sym, arith, map, sum_by}
use Rattle.std.proofs.lemmas.List.FromFn.{sum_by-map-range_with_len_more}
use Rattle.std.specs.List.{range_with_len}
use Rattle.in_queue.specs.Queue.{Queue}
use Rattle.vt_tool.specs.Commands.Drill.{queue_of}
use Rattle.vt_world.specs.State.{WorldState}
use Rattle.vt_tool.proofs.commands.drill.dropped.Goals as goal

pub loop-i-preserved : goal.loop-i-preserved
loop-i-preserved c =
    let w : WorldState = c.args.world.now in
    let i : ℕ = c.loop-i.i in
    let place : 1 + i ≡ i + 1 = omega arith in
    let here : c.dropped.result ≡ (queue_of w (i + 1)).dropped =
    c.dropped.ensures ∙ ap (λ (q : Queue). q.dropped) (c.queue.ensures ∙ ap (queue_of w) c.numbered-c.ensures) in
    let so_far : ℕ = sum_by (λ (q : Queue). q.dropped) (map (queue_of w) (range_with_len 1 i)) in (
      ap (λ (n : ℕ). n + c.from-sum.result) c.loop-i.invariant.0
          ∙ ap (λ (n : ℕ). so_far + n) (c.from-sum.ensures ∙ here)
          ∙ sym (sum_by-map-range_with_len_more (λ (q : Queue). q.dropped) (queue_of w) 1 i (i + 1) place),
      omega (arith, c.loop-i.invariant.1, c.from-sum.ensures, c.dropped.type_inv),
    )
