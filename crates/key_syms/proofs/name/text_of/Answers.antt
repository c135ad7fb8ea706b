use Rattle.std.proofs.Common.{◌≡◌, ◌<◌, ◌≤◌, ℕ, ap, length, length-take, ltb, arith, subst, sym}
use Rattle.std.proofs.lemmas.Bool.{ltb-true}
use Rattle.std.proofs.lemmas.Str.{encode_ascii}
use Rattle.std.specs.Char.{encode_utf8}
use Rattle.std.proofs.lemmas.List.Sums.{AllPass-from_list_all}
use Rattle.key_syms.proofs.name.text_of.Goals as goal

pub push-requires : goal.push-requires
push-requires c =
    let small : c.from.result < 128 = subst (λ (b : ℕ). b < 128) (sym c.from.ensures) (ltb-true _ _ (AllPass-from_list_all (λ b. ltb b 128) c.args.name.now c.requires.ascii c.loop-b.b-index 0 c.loop-b-test.true)) in
    let one : length (encode_utf8 c.from.result) ≡ 1 = ap length (encode_ascii c.from.result small) in
    let front : length c.loop-b.text.bytes ≤ c.loop-b.b-index = omega (arith, ap length c.loop-b.invariant, length-take c.loop-b.b-index c.args.name.now) in
    (omega arith, omega (arith, c.requires.short))
