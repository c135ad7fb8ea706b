-- Texts that grow, piece by piece.
use Rattle.std.proofs.Common.{◌≡◌, ℕ, ◌≤◌, ◌++◌, List, [], length, take, arith, sym, ap, ◌∙◌}
use Rattle.std.proofs.Math.Seq.{take-append_seam}
use Rattle.std.proofs.lemmas.List.{append-nil, take-take, length-take}
use Rattle.vt_base.specs.Bytes.{Text}
use Rattle.vt_journal.specs.Text.{Begins}

-- a text with more bytes after it
pub begins_more : (a b more : List ℕ) → b ≡ a ++ more → Begins a b
begins_more a b more is = record { front = ap (take (length a)) is ∙ take-append_seam a more }

-- a text begins with itself
pub begins_same : (a b : Text) → b ≡ a → Begins a.bytes b.bytes
begins_same a b is = begins_more a.bytes b.bytes [] (ap (λ (t : Text). t.bytes) is ∙ sym (append-nil a.bytes))

-- if a text begins with a second one, and that with a third, the first begins with the third
pub begins_after : (a b c : List ℕ) → Begins a b → Begins b c → Begins a c
begins_after a b c first then =
    let short : length a ≤ length b =
    omega (arith, length-take (length a) b, ap length first.front) in
    record {
      front =
          sym (take-take (length a) (length b) c short)
          ∙ ap (take (length a)) then.front
          ∙ first.front;
    }
