use Rattle.std.proofs.Common.{◌==◌, ◌+◌, ◌≤◌, ◌<◌, ◌∙◌, ℕ, List, length, get_or, arith}
use Rattle.std.proofs.lemmas.Bool.{and_left, eq-eqb, ne_eqb}
use Rattle.vt_units.proofs.ShortForms.{and_second, five_exact, number_last, number_parts}
use Rattle.vt_units.specs.ShortForms.{ends_sgr}
use Rattle.vt_units.proofs.ShortSequences.{five_are}
use Rattle.vt_units.proofs.long_sgr_ahead.five_numbers.Goals as goal

pub returns-clause-sequence : goal.returns-clause-sequence
returns-clause-sequence c =
    five_are c.args.b.now c.args.first c.args.second c.args.third c.number_at-fourth.result.0 c.number_at-fifth.result.0
    4 6 c.args.end c.number_at-fourth.result.1 c.number_at-fifth.result.1
    c.requires.begins c.requires.first (omega arith) c.requires.second c.requires.third
    c.number_at-fourth.ensures.goes c.number_at-fifth.ensures.goes
    (omega arith) c.requires.one (omega arith) c.requires.two (omega arith) c.if-b-end-ne59.false
    (omega arith) c.if-b-next-ne59.false (omega arith) c.if-b-last-ne109.false

pub returns-then-b-end-ne59-clause-exact : goal.returns-then-b-end-ne59-clause-exact
returns-then-b-end-ne59-clause-exact c =
    five_exact c.args.b.now c.args.third c.args.end c.requires.within c.requires.colour c.requires.way
    c.requires.third c.requires.few c.requires.stops
    ∙ and_left (get_or c.args.b.now c.args.end 0 == 0x3B) _ (ne_eqb (get_or c.args.b.now c.args.end 0) 0x3B c.if-b-end-ne59.true)

pub returns-then-b-next-ne59-clause-exact : goal.returns-then-b-next-ne59-clause-exact
returns-then-b-next-ne59-clause-exact c =
    let text : List ℕ = c.args.b.now in
    let next : ℕ = c.number_at-fourth.result.1 in
    let high : next ≤ c.args.end + 1 + 3 = c.number_at-fourth.ensures.high in
    let within : next < length text = omega (arith, high, c.requires.few, c.requires.within) in
    five_exact c.args.b.now c.args.third c.args.end c.requires.within c.requires.colour c.requires.way
    c.requires.third c.requires.few c.requires.stops
    ∙ and_second (get_or text c.args.end 0 == 0x3B) _ (eq-eqb (get_or text c.args.end 0) 0x3B c.if-b-end-ne59.false)
    ∙ number_parts ends_sgr text c.number_at-fourth.result.0 (c.args.end + 1) next c.number_at-fourth.ensures.goes high within
    c.number_at-fourth.ensures.stops
    ∙ and_left (get_or text next 0 == 0x3B) _ (ne_eqb (get_or text next 0) 0x3B c.if-b-next-ne59.true)

pub returns-then-b-last-ne109-clause-exact : goal.returns-then-b-last-ne109-clause-exact
returns-then-b-last-ne109-clause-exact c =
    let text : List ℕ = c.args.b.now in
    let next : ℕ = c.number_at-fourth.result.1 in
    let last : ℕ = c.number_at-fifth.result.1 in
    let high : next ≤ c.args.end + 1 + 3 = c.number_at-fourth.ensures.high in
    let most : last ≤ next + 1 + 3 = c.number_at-fifth.ensures.high in
    let within : next < length text = omega (arith, high, c.requires.few, c.requires.within) in
    let inside : last < length text = omega (arith, high, most, c.requires.few, c.requires.within) in
    five_exact c.args.b.now c.args.third c.args.end c.requires.within c.requires.colour c.requires.way
    c.requires.third c.requires.few c.requires.stops
    ∙ and_second (get_or text c.args.end 0 == 0x3B) _ (eq-eqb (get_or text c.args.end 0) 0x3B c.if-b-end-ne59.false)
    ∙ number_parts ends_sgr text c.number_at-fourth.result.0 (c.args.end + 1) next c.number_at-fourth.ensures.goes high within
    c.number_at-fourth.ensures.stops
    ∙ and_second (get_or text next 0 == 0x3B) _ (eq-eqb (get_or text next 0) 0x3B c.if-b-next-ne59.false)
    ∙ number_last text c.number_at-fifth.result.0 (next + 1) last c.number_at-fifth.ensures.goes most inside
    c.number_at-fifth.ensures.stops
    ∙ ne_eqb (get_or text last 0) 0x6D c.if-b-last-ne109.true

pub returns-clause-exact : goal.returns-clause-exact
returns-clause-exact c =
    let text : List ℕ = c.args.b.now in
    let next : ℕ = c.number_at-fourth.result.1 in
    let last : ℕ = c.number_at-fifth.result.1 in
    let high : next ≤ c.args.end + 1 + 3 = c.number_at-fourth.ensures.high in
    let most : last ≤ next + 1 + 3 = c.number_at-fifth.ensures.high in
    let within : next < length text = omega (arith, high, c.requires.few, c.requires.within) in
    let inside : last < length text = omega (arith, high, most, c.requires.few, c.requires.within) in
    five_exact c.args.b.now c.args.third c.args.end c.requires.within c.requires.colour c.requires.way
    c.requires.third c.requires.few c.requires.stops
    ∙ and_second (get_or text c.args.end 0 == 0x3B) _ (eq-eqb (get_or text c.args.end 0) 0x3B c.if-b-end-ne59.false)
    ∙ number_parts ends_sgr text c.number_at-fourth.result.0 (c.args.end + 1) next c.number_at-fourth.ensures.goes high within
    c.number_at-fourth.ensures.stops
    ∙ and_second (get_or text next 0 == 0x3B) _ (eq-eqb (get_or text next 0) 0x3B c.if-b-next-ne59.false)
    ∙ number_last text c.number_at-fifth.result.0 (next + 1) last c.number_at-fifth.ensures.goes most inside
    c.number_at-fifth.ensures.stops
    ∙ eq-eqb (get_or text last 0) 0x6D c.if-b-last-ne109.false
