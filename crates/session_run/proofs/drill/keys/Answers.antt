use Rattle.std.proofs.Common.{ap, ◌++◌, ◌∷◌, [], ◌∙◌, arith, add-one, sym}
use Rattle.session_run.proofs.Drilling.{keys_more}
use Rattle.session_run.specs.Drill.{keys}
use Rattle.session_run.proofs.drill.keys.Goals as goal

pub loop-i-preserved : goal.loop-i-preserved
loop-i-preserved c = record {
  keys =
      c.append.ensures.bytes
      ∙ ap (λ bytes. bytes ++ 0x1E ∷ 0x9E ∷ []) c.loop-i.invariant.keys
      ∙ keys_more c.loop-i._i
      ∙ ap keys (sym (add-one c.loop-i._i));
  room = omega (arith, c.append.ensures.room, c.loop-i.invariant.room);
}
