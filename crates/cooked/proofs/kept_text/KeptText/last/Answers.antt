use Rattle.std.proofs.Common.{◌≡◌, ℕ, ◌-◌, List, length, take, drop, sym, ap, ◌∙◌, arith}
use Rattle.cooked.proofs.SizeLaws.{last_bytes, size_within}
use Rattle.cooked.proofs.kept_text.KeptText.last.Goals as goal
use Rattle.cooked.specs.KeptText.{last_of}
use Rattle.cooked.specs.Sizes.{parts, total}

pub overflow_sub-result : goal.overflow_sub-result
overflow_sub-result c =
    let sizes : List ℕ = c.as_slice.result.now in
    let bytes : List ℕ = c.as_slice-bytes.result.now in
    let whole : total sizes ≡ length bytes =
    ap total c.as_slice.ensures ∙ c.self.invariant.whole ∙ ap length (sym c.as_slice-bytes.ensures) in
    omega (arith, size_within sizes c.last_size-size.ensures.0 bytes c.last_size-size.result c.last_size-size.ensures.1 whole, c.from.ensures)

pub returns : goal.returns
returns c =
    let sizes : List ℕ = c.as_slice.result.now in
    let bytes : List ℕ = c.as_slice-bytes.result.now in
    let whole : total sizes ≡ length bytes =
    ap total c.as_slice.ensures ∙ c.self.invariant.whole ∙ ap length (sym c.as_slice-bytes.ensures) in
    ap (λ n. take (length bytes - (length bytes - n)) (drop (length bytes - n) bytes)) c.from.ensures
    ∙ last_bytes sizes c.last_size-size.ensures.0 bytes c.last_size-size.result c.last_size-size.ensures.1 whole
    ∙ ap last_of
    (ap (λ ns. parts ns bytes) c.as_slice.ensures
    ∙ ap (parts c.self.inside.sizes.bytes) c.as_slice-bytes.ensures
    ∙ c.self.view_is)
