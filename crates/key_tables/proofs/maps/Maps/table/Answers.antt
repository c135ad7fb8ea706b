use Rattle.std.proofs.Common.{◌∙◌, None, ap, arith, slice_index_or}
use Rattle.std.proofs.lemmas.Grind.{common_steps}
use Rattle.key_tables.proofs.Places.{place_read, table_read}
use Rattle.key_tables.proofs.maps.Maps.table.Goals as goal

pub index-requires-in-Some : goal.index-requires-in-Some
index-requires-in-Some c =
    let at = place_read c.self.inside.places.items _ c.args.t _ _ c.self.invariant.tall c.ranges.t.fits c.from.ensures c.index.ensures c.in-Some.is in
    let low = c.self.invariant.within c.args.t c.in-Some.place at in
    grind (arith, common_steps, low, c.from-in-Some.ensures)

pub returns-in-Some : goal.returns-in-Some
returns-in-Some c =
    let at = place_read c.self.inside.places.items _ c.args.t _ _ c.self.invariant.tall c.ranges.t.fits c.from.ensures c.index.ensures c.in-Some.is in
    table_read c.self.inside.places.items c.self.inside.kept.items c.self.invariant c.args.t c.in-Some.place _ _ at c.from-in-Some.ensures c.index-in-Some.ensures
    ∙ ap (λ ms. slice_index_or ms c.args.t None) c.self.view_is
