-- A byte of the body of a control sequence.
use Rattle.std.proofs.Common.{◌≡◌, ℕ, ◌<◌, true, List, [], ◌∷◌, ◌++◌, length, ap, ◌∙◌, arith}
use Rattle.std.proofs.lemmas.Bool.{cond-false}
use Rattle.std.proofs.lemmas.Bool.Decides.{nat_tests}
use Rattle.vt_units.proofs.Comes.{admitted_quiet, gives}
use Rattle.vt_units.proofs.Follows.{admits}
use Rattle.vt_units.proofs.Joined.{control_goes, sequence_whole, byte_outcome-outcome_of_text}
use Rattle.vt_units.proofs.Readings.{short_reading}
use Rattle.vt_units.specs.Answer.{unbroken_rest, rest_before, rest_before_by, make_outcome}
use Rattle.vt_units.specs.Bytes.{is_body}
use Rattle.vt_units.specs.Reading.{Reading, sequence, text_reading, unfinished}
use Rattle.vt_units.specs.Rest.{rest_with_byte}
use Rattle.vt_units.specs.ParserState.{IsOutcomeOf, Quiet, Stands, rest_of}
use Rattle.vt_units.specs.declared.mode.Mode.{Mode}
use Rattle.vt_units.specs.declared.parser_state.ParserState as stage
use Rattle.vt_units.specs.declared.step.Step.TheVariants.{Grow}
use Rattle.vt_units.specs.declared.then.Then as then

module _ (m : Mode) (t : List ℕ) (b : ℕ) (stands : Stands stage.ParserState.Control m t) (admitted : is_body b ≡ true) (room : length t < 256) where
  joins : IsOutcomeOf m t b then.Then.More (Grow stage.ParserState.Control)
  joins = control_goes m t stands.0 stands.1 b room admitted

  pub body_stands : Stands stage.ParserState.Control m (t ++ b ∷ [])
  body_stands = joins.2

  pub body_quiet : Quiet (rest_of m t) b (rest_of m (t ++ b ∷ []))
  body_quiet n =
      let passes : admits b ≡ true = grind (arith, nat_tests, admitted) in
      let quiet = admitted_quiet m b passes in
      let is : text_reading m t ≡ unfinished sequence = sequence_whole stage.ParserState.Control m t tt stands in
      let left : rest_before (rest_of m t) n b ≡ unbroken_rest (rest_of m t) =
      ap (λ (now : Reading). rest_before_by now (rest_of m t) n b) (short_reading m t (omega (arith, room)) ∙ is)
      ∙ ap unbroken_rest (cond-false _ _ _ quiet.1) in
      gives n (rest_of m t) (rest_of m t) b (make_outcome then.Then.More (rest_with_byte (rest_of m t) b)) left
      (byte_outcome-outcome_of_text m t b (omega (arith, room)) sequence is quiet.0 quiet.2 ∙ joins.0)
