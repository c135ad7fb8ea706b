use Rattle.std.proofs.Common.{◌≡◌, ◌⊎◌, inl, inr, false, sym, ◌∙◌, arith}
use Rattle.vt_chars.specs.Utf8.{is_tail}
use Rattle.vt_units.proofs.Commons.{none_common}
use Rattle.vt_units.proofs.characters.common_character.Goals.{then-three, else-three, then-not-is_tail-via-then-not-is_tail, then-not-is_tail-via-else-not-is_tail+then-not-is_tail-2}
use Rattle.vt_units.proofs.characters.common_character.Goals as goal

pub returns-then-not-is_tail-clause-none : goal.returns-then-not-is_tail-clause-none
returns-then-not-is_tail-clause-none c =
    let fails : (is_tail c.args.b ≡ false) ⊎ (is_tail c.if-three.last ≡ false) =
    elim c.then-not-is_tail.branch [
      | then-not-is_tail-via-then-not-is_tail w ↦ inl (sym c.is_tail.ensures ∙ w.if-not-is_tail.true)
      | then-not-is_tail-via-else-not-is_tail+then-not-is_tail-2 w ↦
          inr (sym w.is_tail-else-not-is_tail.ensures ∙ w.if-not-is_tail-2.true)
    ] in
    elim c.if-three.branch [
      | then-three w ↦ none_common _ _ _ _ c.requires.common
          (λ less. absurd (omega (arith, less, w.if-three.true))) (λ most. w.last-is) fails
      | else-three w ↦ none_common _ _ _ _ c.requires.common
          (λ less. w.last-is) (λ most. absurd (omega (arith, most, w.if-three.false))) fails
    ]
