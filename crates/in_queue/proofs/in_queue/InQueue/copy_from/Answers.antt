use Rattle.std.proofs.Common.{◌≡◌, ℕ, ◌≤◌, List, [], ◌++◌, length, ap, ◌∙◌, arith}
use Rattle.std.proofs.lemmas.List.{length-append}
use Rattle.circular_buffer.specs.Buffer.{Buffer, buffer}
use Rattle.in_queue.proofs.Copies.{more_items}
use Rattle.in_queue.specs.Queue.{Queue}
use Rattle.in_queue.proofs.in_queue.InQueue.copy_from.Goals as goal

pub returns : goal.returns
returns c =
    let room : ℕ = c.self.inside.bytes.capacity in
    let front : List ℕ = c.as_slices.result.0.now in
    let back : List ℕ = c.as_slices.result.1.now in
    let all : front ++ back ≡ c.other.inside.bytes.items = c.as_slices.ensures in
    let few : length (front ++ back) ≤ room =
    omega (arith, ap length all, c.len-len.ensures.len, c.len-len.ensures.within.0, c.self.invariant, c.other.invariant) in
    let some : length front ≤ room = omega (arith, few, length-append front back) in
    let first : c.extend_from_slice.new.self ≡ buffer front room =
    more_items c.clear.new.self c.extend_from_slice.new.self [] front room c.clear.ensures some c.extend_from_slice.ensures in
    let both : c.extend_from_slice-2.new.self ≡ buffer (front ++ back) room =
    more_items c.extend_from_slice.new.self c.extend_from_slice-2.new.self front back room first few c.extend_from_slice-2.ensures in
    ap (λ (b : Buffer ℕ). record { bytes = b.items; dropped = c.other.inside.dropped }) both
    ∙ ap (λ (items : List ℕ). record { bytes = items; dropped = c.other.inside.dropped }) all
    ∙ c.other.view_is
