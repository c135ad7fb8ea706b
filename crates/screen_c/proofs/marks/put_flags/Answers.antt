use Rattle.std.proofs.Common.{◌≡◌, ℕ, ◌<◌, ◌++◌, List, ap, sym, ◌∙◌, add-one, arith, drop, length, set, take}
use Rattle.std.proofs.lemmas.List.FromFn.{get_or-map-range_with_len, length-map-range_with_len}
use Rattle.std.proofs.lemmas.List.{length-set}
use Rattle.c_calls.proofs.Prefixes.{written_all, written_more}
use Rattle.screen_c.specs.Marks.{changed_flags, is_changed}
use Rattle.c_calls.specs.Flags.{c_flag}
use Rattle.vt_grid.specs.Grid.{GridView}
use Rattle.screen_c.proofs.marks.put_flags.Goals as goal

pub loop-n-preserved : goal.loop-n-preserved
loop-n-preserved c =
    let grid : GridView = c.args.grid.now in
    let flag : ℕ → ℕ = λ y. c_flag (is_changed c.args.mark.now grid y) in
    let items : List ℕ = changed_flags c.args.mark.now grid in
    let start : List ℕ = c.args.places.now in
    let n : ℕ = c.loop-n.n in
    let bound : c.min-count.result ≡ _ = c.min-count.ensures in
    let within : n < grid.rows =
    omega (arith, c.loop-n-test.true, bound, c.from-rows.ensures, c.size.ensures.rows) in
    let room : n < length start = omega (arith, c.loop-n-test.true, bound, c.loop-n.invariant.size) in
    let some : n < length items = omega (arith, within, length-map-range_with_len flag 0 grid.rows) in
    let this : c.flag-answer.result ≡ _ =
    c.flag-answer.ensures ∙ ap c_flag c.is_changed.ensures
    ∙ sym (get_or-map-range_with_len flag 0 grid.rows n n 0 within (omega arith)) in
    record {
      within = omega (arith, c.loop-n-test.true);
      size = length-set c.loop-n.places n c.flag-answer.result ∙ c.loop-n.invariant.size;
      places =
          ap (λ (places : List ℕ). set places n c.flag-answer.result) c.loop-n.invariant.places
          ∙ written_more items start n c.flag-answer.result 0 some room this
          ∙ ap (λ (k : ℕ). take k items ++ drop k start) (sym (add-one n));
    }

pub returns : goal.returns
returns c =
    let grid : GridView = c.args.grid.now in
    let flag : ℕ → ℕ = λ y. c_flag (is_changed c.args.mark.now grid y) in
    c.loop-n.invariant.places
    ∙ written_all (changed_flags c.args.mark.now grid) c.args.places.now c.loop-n.n
    (omega (
      arith,
      c.loop-n-test.false,
      c.loop-n.invariant.within,
      c.min-count.ensures,
      c.from-rows.ensures,
      c.size.ensures.rows,
      length-map-range_with_len flag 0 grid.rows,
    ))
