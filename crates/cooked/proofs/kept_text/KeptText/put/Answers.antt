use Rattle.std.proofs.Common.{◌<◌, ℕ, ◌+◌, List, [], ◌∷◌, ◌++◌, length, sym, ap, ◌∙◌, subst, arith, length-append}
use Rattle.std.specs.List.{concat}
use Rattle.cooked.proofs.SizeLaws.{added_parts, added_whole, joined_parts, joined_whole, no_longer, parts_count, parts_whole, size_of_last}
use Rattle.cooked.proofs.kept_text.KeptText.put.Goals as goal
use Rattle.cooked.specs.KeptText.{last_of}
use Rattle.cooked.specs.Sizes.{parts, total, with_joined, with_put}

pub push-requires : goal.push-requires
push-requires c =
    let all = parts_whole c.self.inside.sizes.bytes c.self.inside.bytes.bytes c.self.invariant.whole in
    omega (arith, ap length all, ap (λ (cs : List (List ℕ)). length (concat cs)) c.self.view_is, c.requires.bytes, c.self.invariant.bytes_room)

pub overflow_add-size : goal.overflow_add-size
overflow_add-size c =
    let sizes : List ℕ = c.self.inside.sizes.bytes in
    let bytes : List ℕ = c.self.inside.bytes.bytes in
    let few : length (last_of (parts sizes bytes)) < 4 =
    subst (λ cs. length (last_of cs) < 4) (sym c.self.view_is) (c.requires.few c.if-joins.true) in
    omega (arith, size_of_last sizes c.take_size-size.new.sizes.bytes bytes c.take_size-size.result c.take_size-size.ensures.size c.self.invariant.whole, few)

pub push-requires-then-joins : goal.push-requires-then-joins
push-requires-then-joins c =
    omega (
      arith,
      no_longer c.self.inside.sizes.bytes c.take_size-size.new.sizes.bytes c.take_size-size.result c.take_size-size.ensures.size,
      parts_count c.self.inside.sizes.bytes c.self.inside.bytes.bytes,
      ap (λ (cs : List (List ℕ)). length cs) c.self.view_is,
      c.requires.characters,
      c.take_size-size.ensures.room,
      c.self.invariant.sizes_room,
    )

pub invariant_of-self : goal.invariant_of-self
invariant_of-self c =
    let sizes : List ℕ = c.take_size-size.new.sizes.bytes in
    record {
      whole =
          ap total c.push-then-joins.ensures.bytes
          ∙ joined_whole c.self.inside.sizes.bytes sizes c.self.inside.bytes.bytes c.take_size-size.result
          c.take_size-size.ensures.size c.self.invariant.whole c.args.b
          ∙ ap length (sym c.push.ensures.bytes);
      bytes_room =
          omega (
            arith,
            ap length c.push.ensures.bytes,
            length-append c.self.inside.bytes.bytes (c.args.b ∷ []),
            c.push.ensures.room,
            c.self.invariant.bytes_room,
          );
      sizes_room =
          omega (
            arith,
            ap length c.push-then-joins.ensures.bytes,
            length-append sizes ((c.take_size-size.result + 1) ∷ []),
            c.push-then-joins.ensures.room,
            c.take_size-size.ensures.room,
            c.self.invariant.sizes_room,
          );
    }

pub returns-then-joins : goal.returns-then-joins
returns-then-joins c =
    let sizes : List ℕ = c.take_size-size.new.sizes.bytes in
    ap (λ ns. parts ns c.push.new.self.bytes) c.push-then-joins.ensures.bytes
    ∙ ap (parts (sizes ++ (c.take_size-size.result + 1) ∷ [])) c.push.ensures.bytes
    ∙ joined_parts c.self.inside.sizes.bytes sizes c.self.inside.bytes.bytes c.take_size-size.result
    c.take_size-size.ensures.size c.self.invariant.whole c.args.b
    ∙ ap (λ cs. with_joined cs c.args.b) c.self.view_is
    ∙ ap (λ j. with_put j c.args.self.now c.args.b) (sym c.if-joins.true)

pub push-requires-else-joins : goal.push-requires-else-joins
push-requires-else-joins c =
    omega (
      arith,
      parts_count c.self.inside.sizes.bytes c.self.inside.bytes.bytes,
      ap (λ (cs : List (List ℕ)). length cs) c.self.view_is,
      c.requires.characters,
      c.self.invariant.sizes_room,
    )

pub invariant_of-self-else-joins : goal.invariant_of-self-else-joins
invariant_of-self-else-joins c = record {
  whole =
      ap total c.push-else-joins.ensures.bytes
      ∙ added_whole c.self.inside.sizes.bytes c.self.inside.bytes.bytes c.args.b c.self.invariant.whole
      ∙ ap length (sym c.push.ensures.bytes);
  bytes_room =
      omega (
        arith,
        ap length c.push.ensures.bytes,
        length-append c.self.inside.bytes.bytes (c.args.b ∷ []),
        c.push.ensures.room,
        c.self.invariant.bytes_room,
      );
  sizes_room =
      omega (
        arith,
        ap length c.push-else-joins.ensures.bytes,
        length-append c.self.inside.sizes.bytes (1 ∷ []),
        c.push-else-joins.ensures.room,
        c.self.invariant.sizes_room,
      );
}

pub returns-else-joins : goal.returns-else-joins
returns-else-joins c =
    ap (λ ns. parts ns c.push.new.self.bytes) c.push-else-joins.ensures.bytes
    ∙ ap (parts (c.self.inside.sizes.bytes ++ 1 ∷ [])) c.push.ensures.bytes
    ∙ added_parts c.self.inside.sizes.bytes c.self.inside.bytes.bytes c.args.b c.self.invariant.whole
    ∙ ap (λ cs. cs ++ (c.args.b ∷ []) ∷ []) c.self.view_is
    ∙ ap (λ j. with_put j c.args.self.now c.args.b) (sym c.if-joins.false)
