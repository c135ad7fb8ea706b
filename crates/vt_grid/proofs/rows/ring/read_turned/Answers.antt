use Rattle.std.proofs.Common.{◌≡◌, ℕ, ◌+◌, ◌-◌, List, ◌++◌, length, take, drop, ap, ◌∙◌, arith}
use Rattle.vt_grid.proofs.Turns.{length-rotation_by, rotation_by_pieces}
use Rattle.vt_grid.specs.Store.{rotation_by}
use Rattle.vt_grid.proofs.rows.ring.read_turned.Goals as goal

pub returns : goal.returns
returns c =
    let order : List ℕ = rotation_by c.args.head c.args.numbers.now in
    let len : ℕ = length c.args.part.now in
    let front : c.read_part.new.part ≡ take (len - c.args.n) (drop (c.args.top + c.args.n) order) =
    c.read_part.ensures
    ∙ ap (λ (k : ℕ). take k (drop (c.args.top + c.args.n) order))
    (omega (arith, c.split_at_mut-front.ensures.front_len)) in
    let back : c.read_part-2.new.part ≡ take c.args.n (drop c.args.top order) =
    c.read_part-2.ensures
    ∙ ap (λ (k : ℕ). take k (drop c.args.top order))
    (omega (arith, c.split_at_mut-front.ensures.back_len)) in
    (λ i. front i ++ back i)
    ∙ rotation_by_pieces c.args.top c.args.n len order c.requires.some
    (omega (arith, length-rotation_by c.args.head c.args.numbers.now))
