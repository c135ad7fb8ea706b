-- A buffer that gets more items, and has room for them.
use Rattle.std.proofs.Common.{◌≡◌, ℕ, ◌-◌, ◌≤◌, List, ◌++◌, length, drop, ap, ◌∙◌, arith}
use Rattle.circular_buffer.specs.Buffer.{Buffer, buffer, keep_last}

pub more_items : (before after : Buffer ℕ) (xs ys : List ℕ) (room : ℕ) → before ≡ buffer xs room
    → length (xs ++ ys) ≤ room
    → after ≡ buffer (keep_last before.capacity (before.items ++ ys)) before.capacity
    → after ≡ buffer (xs ++ ys) room
more_items before after xs ys room is few step =
    let none : length (xs ++ ys) - room ≡ 0 = omega (arith, few) in
    step
    ∙ ap (λ (b : Buffer ℕ). buffer (keep_last b.capacity (b.items ++ ys)) b.capacity) is
    ∙ ap (λ n. buffer (drop n (xs ++ ys)) room) none
