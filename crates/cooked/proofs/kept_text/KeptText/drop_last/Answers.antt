use Rattle.std.proofs.Common.{◌≡◌, ℕ, ◌-◌, List, length, take, sym, ap, ◌∙◌, arith}
use Rattle.cooked.proofs.SizeLaws.{dropped_parts, dropped_whole, size_within}
use Rattle.cooked.proofs.kept_text.KeptText.drop_last.Goals as goal
use Rattle.cooked.specs.KeptText.{but_last}
use Rattle.cooked.specs.Sizes.{parts}

pub overflow_sub-len : goal.overflow_sub-len
overflow_sub-len c =
    omega (
      arith,
      size_within c.self.inside.sizes.bytes c.take_size-size.new.sizes.bytes c.self.inside.bytes.bytes
          c.take_size-size.result c.take_size-size.ensures.size c.self.invariant.whole,
      c.from.ensures,
      ap length c.as_slice-len.ensures,
    )

pub invariant_of-self : goal.invariant_of-self
invariant_of-self c =
    let bytes : List ℕ = c.self.inside.bytes.bytes in
    let cut : c.truncate.new.self.bytes ≡ take (length bytes - c.take_size-size.result) bytes =
    c.truncate.ensures.bytes
    ∙ ap (λ bs. take (length bs - c.from.result) bytes) c.as_slice-len.ensures
    ∙ ap (λ n. take (length bytes - n) bytes) c.from.ensures in
    record {
      whole =
          dropped_whole c.self.inside.sizes.bytes c.take_size-size.new.sizes.bytes bytes c.take_size-size.result
          c.take_size-size.ensures.size c.self.invariant.whole
          ∙ ap length (sym cut);
      bytes_room = omega (arith, c.truncate.ensures.room, c.self.invariant.bytes_room);
      sizes_room = omega (arith, c.take_size-size.ensures.room, c.self.invariant.sizes_room);
    }

pub returns : goal.returns
returns c =
    let sizes : List ℕ = c.take_size-size.new.sizes.bytes in
    let bytes : List ℕ = c.self.inside.bytes.bytes in
    let cut : c.truncate.new.self.bytes ≡ take (length bytes - c.take_size-size.result) bytes =
    c.truncate.ensures.bytes
    ∙ ap (λ bs. take (length bs - c.from.result) bytes) c.as_slice-len.ensures
    ∙ ap (λ n. take (length bytes - n) bytes) c.from.ensures in
    ap (parts sizes) cut
    ∙ dropped_parts c.self.inside.sizes.bytes sizes bytes c.take_size-size.result c.take_size-size.ensures.size
    c.self.invariant.whole
    ∙ ap but_last c.self.view_is
