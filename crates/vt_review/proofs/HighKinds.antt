-- A number of eight bits has no bit for a kind from 8 on.
use Rattle.std.proofs.Common.{◌≡◌, ℕ, ◌<◌, ◌≤◌, ◌^◌, ltb, eqb, sym, ap, ◌∙◌}
use Rattle.std.proofs.lemmas.Bool.{le-ltb}
use Rattle.std.proofs.lemmas.Nat.Bits.{bit_at_above}
use Rattle.vt_review.specs.Ears.{is_kind}

pub no_kind : (kinds kind : ℕ) → kinds < 2 ^ 8 → 8 ≤ kind → ltb kind 8 ≡ is_kind kinds kind
no_kind kinds kind few high =
    le-ltb kind 8 high ∙ sym (ap (λ (bit : ℕ). eqb bit 1) (bit_at_above kinds 8 kind few high))
