use Rattle.std.proofs.Common.{◌≡◌, ℕ, ◌++◌, List, ap, sym, ◌∙◌, add-one, arith, drop, map, set, take}
use Rattle.std.proofs.Math.ListN.{get_or-map}
use Rattle.std.proofs.lemmas.List.{length-map, length-set}
use Rattle.c_calls.proofs.Prefixes.{written_more}
use Rattle.screen_c.specs.Shown.{c_colour}
use Rattle.screen_c.specs.declared.vt_colour.VtColour.{VtColour}
use Rattle.vt_cells.specs.Colours.{Rgb}
use Rattle.screen_c.proofs.colours.put_colours.Goals as goal

pub loop-n-preserved : goal.loop-n-preserved
loop-n-preserved c =
    let rgbs : List Rgb = c.args.rgbs.now in
    let items : List VtColour = map c_colour rgbs in
    let start : List VtColour = c.args.places.now in
    let n : ℕ = c.loop-n.n in
    let bound : c.min-count.result ≡ _ = c.min-count.ensures in
    record {
      within = omega (arith, c.loop-n-test.true);
      size = length-set c.loop-n.places n c.of.result ∙ c.loop-n.invariant.size;
      places =
          ap (λ (places : List VtColour). set places n c.of.result) c.loop-n.invariant.places
          ∙ written_more items start n c.of.result _
          (omega (arith, c.loop-n-test.true, bound, length-map rgbs c_colour))
          (omega (arith, c.loop-n-test.true, bound, c.loop-n.invariant.size))
          (c.of.ensures ∙ sym (get_or-map c_colour rgbs n _))
          ∙ ap (λ (k : ℕ). take k items ++ drop k start) (sym (add-one n));
    }
