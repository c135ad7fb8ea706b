use Rattle.std.proofs.Common.{◌∙◌, List, None, Option, ap, arith, slice_index_or, slice_set, subst}
use Rattle.std.proofs.lemmas.Grind.{common_steps}
use Rattle.std.specs.Option.{option_map}
use Rattle.key_syms.specs.Act.{Act}
use Rattle.key_tables.specs.Kept.{maps_at}
use Rattle.key_tables.specs.Tables.{AreMaps}
use Rattle.key_tables.proofs.Places.{kept_maps, kept_put, maps_put, place_read}
use Rattle.key_tables.proofs.maps.Maps.put.Goals as goal

pub index_mut-table-requires : goal.index_mut-table-requires
index_mut-table-requires c =
    let at = place_read c.self.inside.places.items _ c.args.t _ _ c.self.invariant.tall c.ranges.t.fits c.from.ensures c.index.ensures c.in-Some.is in
    let low = c.self.invariant.within c.args.t c.in-Some.place at in
    grind (arith, common_steps, low, c.from-in-Some.ensures)

pub invariant_of-self : goal.invariant_of-self
invariant_of-self c =
    kept_put c.self.inside.places.items c.self.inside.kept.items c.self.invariant c.from-in-Some.result c.put.new.self c.put.ensures.whole

pub returns-in-Some-clause-maps : goal.returns-in-Some-clause-maps
returns-in-Some-clause-maps c =
    let at = place_read c.self.inside.places.items _ c.args.t _ _ c.self.invariant.tall c.ranges.t.fits c.from.ensures c.index.ensures c.in-Some.is in
    ap (λ p. maps_at c.self.inside.places.items (slice_set c.self.inside.kept.items p c.put.new.self)) c.from-in-Some.ensures
    ∙ maps_put c.self.inside.places.items c.self.inside.kept.items c.self.invariant c.args.t c.in-Some.place c.ranges.t.fits at
    (λ map. slice_set map c.args.c c.args.a) c.index_mut-table.result.now c.put.new.self
    (c.index_mut-table.ensures.value ∙ ap (λ p. slice_index_or c.self.inside.kept.items p c.index_mut-table.result.now) c.from-in-Some.ensures) c.put.ensures.map
    ∙ ap (λ (ms : List (Option (List Act))). slice_set ms c.args.t (option_map (λ map. slice_set map c.args.c c.args.a) (slice_index_or ms c.args.t None))) c.self.view_is

pub returns-in-Some-clause-whole : goal.returns-in-Some-clause-whole
returns-in-Some-clause-whole c =
    kept_maps c.self.inside.places.items (slice_set c.self.inside.kept.items c.from-in-Some.result c.put.new.self)
    (kept_put c.self.inside.places.items c.self.inside.kept.items c.self.invariant c.from-in-Some.result c.put.new.self c.put.ensures.whole)

pub returns-in-None-clause-whole : goal.returns-in-None-clause-whole
returns-in-None-clause-whole c =
    subst (λ (ms : List (Option (List Act))). AreMaps ms) c.self.view_is
    (kept_maps c.self.inside.places.items c.self.inside.kept.items c.self.invariant)
