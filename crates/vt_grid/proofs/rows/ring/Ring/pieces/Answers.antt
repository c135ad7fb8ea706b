use Rattle.std.proofs.Common.{◌≡◌, ℕ, ◌+◌, ◌-◌, ◌≤◌, List, [], ◌++◌, length, take, drop, ap, ◌∙◌, arith}
use Rattle.vt_grid.proofs.Clears.{one_piece, two_pieces}
use Rattle.vt_grid.proofs.Turns.{IsPlace, length-rotation_by}
use Rattle.vt_grid.proofs.rows.ring.Ring.pieces.Goals as goal

pub returns-then-count-room : goal.returns-then-count-room
returns-then-count-room c =
    let head : ℕ = c.self.inside.head in
    let numbers : List ℕ = c.self.inside.numbers.items in
    let start : ℕ = c.place_of-start.result in
    let len : c.len.result ≡ length numbers = omega arith in
    let is : IsPlace (length numbers) head c.args.from start = rw (← len) c.place_of-start.ensures.place in
    let within : c.args.from + c.args.count ≤ length numbers =
    omega (arith, c.requires, ap length c.self.view_is, length-rotation_by head numbers) in
    let count : start + c.from-count.result - start ≡ c.args.count = omega arith in
    (λ i. take (count i) (drop start (c.deref.ensures.value i)) ++ [])
    ∙ one_piece head c.args.from start c.args.count numbers (omega arith) (omega (arith, within))
    (omega arith) is within (omega arith)
    ∙ ap (λ (order : List ℕ). take c.args.count (drop c.args.from order)) c.self.view_is

pub returns-else-count-room : goal.returns-else-count-room
returns-else-count-room c =
    let head : ℕ = c.self.inside.head in
    let numbers : List ℕ = c.self.inside.numbers.items in
    let start : ℕ = c.place_of-start.result in
    let len : c.len.result ≡ length numbers = omega arith in
    let is : IsPlace (length numbers) head c.args.from start = rw (← len) c.place_of-start.ensures.place in
    let within : c.args.from + c.args.count ≤ length numbers =
    omega (arith, c.requires, ap length c.self.view_is, length-rotation_by head numbers) in
    let more : c.from-count.result - (c.len-2.result - start) ≡ c.args.count - (length numbers - start) =
    omega arith in
    (λ i. take (length (c.deref-else-count-room.ensures.value i) - start)
    (drop start (c.deref-else-count-room.ensures.value i))
    ++ take (more i) (c.deref-else-count-room-2.ensures.value i))
    ∙ two_pieces head c.args.from start c.args.count numbers (omega arith) (omega (arith, within))
    (omega arith) is within (omega arith)
    ∙ ap (λ (order : List ℕ). take c.args.count (drop c.args.from order)) c.self.view_is
