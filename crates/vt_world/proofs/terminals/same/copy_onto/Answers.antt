use Rattle.std.proofs.Common.{◌∙◌, arith}
use Rattle.vt_world.proofs.Copied.{copied_more, get_other, length_set}
use Rattle.vt_world.proofs.terminals.same.copy_onto.Goals as goal

pub loop-i-preserved : goal.loop-i-preserved
loop-i-preserved c = record {
  copied =
      copied_more c.args.others.now c.args.places.now c.loop-i.places c.loop-i.i c.index-others-i.result c.put_place.new.place
      c.loop-i-test.true c.requires.same c.loop-i.invariant.copied c.index-others-i.is c.put_place.ensures;
  many = length_set c.loop-i.grids c.loop-i.i c.take-grid.new.self ∙ c.loop-i.invariant.many;
  fit = λ j place other grid low high place_is grid_is other_is.
      c.loop-i.invariant.fit j place other grid (omega (arith, low)) high place_is
      (grid_is ∙ get_other c.loop-i.grids c.loop-i.i j c.take-grid.new.self grid (omega (arith, low))) other_is;
}
