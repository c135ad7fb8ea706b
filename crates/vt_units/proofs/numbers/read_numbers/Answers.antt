use Rattle.std.proofs.Common.{◌≡◌, ◌<◌, refl, ℕ, ◌+◌, ◌++◌, List, [], ◌∷◌, length, take, drop, ap, ◌∙◌, arith}
use Rattle.vt_units.proofs.ShortSequences.{reads_one}
use Rattle.vt_units.proofs.Fields.{numbers_after_all, field_more}
use Rattle.vt_units.specs.Numbers.{numbers_after, params_of}
use Rattle.vt_units.specs.Reading.{longest_prefix}
use Rattle.vt_units.specs.Sequences.{is_parameter}
use Rattle.vt_units.proofs.numbers.read_numbers.Goals as goal

pub loop-at-init : goal.loop-at-init
loop-at-init c = record {
  params =
      ap (λ (kept : List ℕ). take 16 (kept ++ numbers_after 0 (longest_prefix is_parameter c.args.text.now))) c.clear.ensures
      ∙ numbers_after_all (longest_prefix is_parameter c.args.text.now);
  count = omega arith;
  rest = refl;
  within = omega arith;
}

pub loop-at-preserved : goal.loop-at-preserved
loop-at-preserved c =
    let text : List ℕ = c.args.text.now in
    let at : ℕ = c.loop-at.at in
    let m : ℕ = c.number_at-number.result.0 in
    let j : ℕ = c.number_at-number.result.1 in
    let within : j < length text = omega (arith, c.number_at-number.ensures.high, c.loop-at-test.true) in
    let one = reads_one text 0 at m j c.number_at-number.ensures.goes within c.if-text-end-ne59.false in
    let after : List ℕ = numbers_after 0 (longest_prefix is_parameter (drop (j + 1) text)) in
    let added : c.add.new.params ≡ take 16 (c.loop-at.params ++ m ∷ []) =
    c.add.ensures ∙ ap (λ (k : ℕ). take 16 (c.loop-at.params ++ k ∷ [])) c.from.ensures in
    record {
      params =
          ap (λ (kept : List ℕ). take 16 (kept ++ after)) added
          ∙ field_more c.loop-at.params m (numbers_after 0 (longest_prefix is_parameter (drop at text))) after
          (params_of (longest_prefix is_parameter text)) one.numbers c.loop-at.invariant.params;
      count = omega (arith, one.count, c.loop-at.invariant.count);
      rest = c.loop-at.invariant.rest ∙ one.rest;
      within = omega (arith, within);
    }
