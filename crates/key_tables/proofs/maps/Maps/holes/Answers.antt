use Rattle.std.proofs.Common.{◌≡◌, ℕ, arith, subst}
use Rattle.key_tables.proofs.Holes.{AreBegun, begun_kept, begun_more}
use Rattle.key_tables.proofs.Places.{kept_maps}
use Rattle.key_tables.proofs.maps.Maps.holes.Goals as goal

pub loop-t-preserved : goal.loop-t-preserved
loop-t-preserved c =
    begun_more c.args.declared.now c.loop-t.places.items c.loop-t.kept.items c.loop-t.t c.loop-t.invariant _ c.contains.ensures.value _ c.in_ok-declare.ensures.place _ c.in_ok-declare.ensures.kept _ c.in_ok-push.ensures.items

pub invariant_of-result : goal.invariant_of-result
invariant_of-result c =
    let last : c.loop-t.t ≡ 256 = omega (arith, c.loop-t.auto.t-end, c.loop-t-test.false) in
    begun_kept c.args.declared.now c.loop-t.places.items c.loop-t.kept.items
    (subst (λ (n : ℕ). AreBegun c.args.declared.now c.loop-t.places.items c.loop-t.kept.items n) last c.loop-t.invariant)

pub returns-clause-whole : goal.returns-clause-whole
returns-clause-whole c =
    let last : c.loop-t.t ≡ 256 = omega (arith, c.loop-t.auto.t-end, c.loop-t-test.false) in
    kept_maps c.loop-t.places.items c.loop-t.kept.items
    (begun_kept c.args.declared.now c.loop-t.places.items c.loop-t.kept.items
    (subst (λ (n : ℕ). AreBegun c.args.declared.now c.loop-t.places.items c.loop-t.kept.items n) last c.loop-t.invariant))
