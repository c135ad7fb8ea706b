use Rattle.std.proofs.Common.{◌≡◌, ◌+◌, ◌-◌, ◌∷◌, ◌++◌, [], ℕ, List, length, take, drop, subst, sym, ap, ◌∙◌, arith, length-drop, length-append}
use Rattle.std.proofs.Math.Seq.{take-add}
use Rattle.std.proofs.lemmas.List.{drop-drop, take_all}
use Rattle.vt_units.proofs.Wholes.{texts_more}
use Rattle.vt_units.specs.Characters.{AreTextsOf, Begins}
use Rattle.vt_units.proofs.characters.read_characters.Goals as goal

pub loop-code-preserved : goal.loop-code-preserved
loop-code-preserved c =
    let text : List ℕ = c.args.b.now in
    let left : List ℕ = c.loop-code.rest.now in
    let n : ℕ = c.in-Some.len in
    let at : ℕ = length text - length left in
    let begins : Begins left c.in-Some.code n = c.in-Some.ensures.some in
    let next : List ℕ = take (length left - n) (drop n left) in
    let whole : next ≡ drop n left = take_all (length left - n) (drop n left) (omega (arith, length-drop n left)) in
    let len : length next ≡ length left - n = ap (λ (bytes : List ℕ). length bytes) whole ∙ length-drop n left in
    let reached : at + n ≡ length text - length next =
    omega (arith, len, begins.within, c.loop-code.invariant.within) in
    let front : take at text ++ take n left ≡ take (length text - length next) text =
    ap (λ (bytes : List ℕ). take at text ++ take n bytes) c.loop-code.invariant.left
    ∙ sym (take-add at n text)
    ∙ ap (λ (k : ℕ). take k text) reached in
    let longer : AreTextsOf (take at text ++ take n left) (c.loop-code.codes ++ c.in-Some.code ∷ []) =
    texts_more (take at text) c.loop-code.codes (take n left) c.in-Some.code c.loop-code.invariant.texts begins.first in
    record {
      within = omega (arith, len, c.loop-code.invariant.within);
      left =
          whole
          ∙ ap (drop n) c.loop-code.invariant.left
          ∙ drop-drop n at text
          ∙ ap (λ (k : ℕ). drop k text) (omega (arith, reached));
      texts =
          subst (λ (codes : List ℕ). AreTextsOf (take (length text - length next) text) codes) (sym c.push.ensures)
          (subst (λ (bytes : List ℕ). AreTextsOf bytes (c.loop-code.codes ++ c.in-Some.code ∷ [])) front longer);
      fits = omega (arith, ap (λ (codes : List ℕ). length codes) c.push.ensures, length-append c.loop-code.codes (c.in-Some.code ∷ []), c.len.ensures.count, c.loop-code-test.true);
    }
