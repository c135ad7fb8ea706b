use Rattle.std.proofs.Common.{ℕ, ◌-◌, List, ◌++◌, take, sym, ap, ◌∙◌, append_assoc}
use Rattle.in_queue.specs.Queue.{Queue}
use Rattle.in_queue.proofs.Pieces.{take_pieces}
use Rattle.in_queue.proofs.in_queue.InQueue.take.Goals as goal

pub returns-clause-taken : goal.returns-clause-taken
returns-clause-taken c =
    let count = c.min-count.result in
    let first = c.min-from_front.result in
    let out : List ℕ = c.args.out.now.bytes in
    let front : List ℕ = c.as_slices.result.0.now in
    let back : List ℕ = c.as_slices.result.1.now in
    c.append-2.ensures.bytes
    ∙ ap (λ text. text ++ take (count - first) back) c.append.ensures.bytes
    ∙ append_assoc out (take first front) (take (count - first) back)
    ∙ ap (λ piece. out ++ piece) (sym (take_pieces count first front back c.min-from_front.ensures))
    ∙ ap (λ all. out ++ take count all) (c.as_slices.ensures ∙ ap (λ (q : Queue). q.bytes) c.self.view_is)
