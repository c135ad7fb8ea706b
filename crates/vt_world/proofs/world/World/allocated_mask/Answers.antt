use Rattle.std.proofs.Common.{◌≡◌, ◌≤◌, ℕ, ◌^◌, map, ap, subst, ◌∙◌, arith}
use Rattle.std.specs.List.{range_with_len}
use Rattle.std.specs.Prelude.{sum, if◌then◌else◌}
use Rattle.vt_switch.specs.Display.{is_allocated}
use Rattle.vt_world.proofs.Masks.{bits_more, sum_more}
use Rattle.vt_world.proofs.world.World.allocated_mask.Goals as goal

pub loop-k-preserved : goal.loop-k-preserved
loop-k-preserved c =
    let bit : ℕ → ℕ = λ n. if is_allocated c.args.self.now.display n then 2 ^ n else 0 in
    let part = c.allocated_bit-mask in
    record {
      sum = sum_more bit c.loop-k.k c.loop-k.mask part.result c.loop-k.invariant.sum (part.ensures.bit ∙ ap bit c.numbered.ensures);
      bound = bits_more c.loop-k.k c.loop-k.mask part.result c.loop-k.invariant.bound
          (subst (λ n. part.result ≤ 2 ^ n) c.numbered.ensures part.ensures.bound);
    }

pub returns : goal.returns
returns c =
    let bit : ℕ → ℕ = λ n. if is_allocated c.args.self.now.display n then 2 ^ n else 0 in
    c.loop-k.invariant.sum
    ∙ ap (λ k. sum (map bit (range_with_len 1 k))) (let e : c.loop-k.k ≡ 63 = omega arith in e)
