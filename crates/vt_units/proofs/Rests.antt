-- The bytes that are pending are none or unfinished.
use Rattle.std.proofs.Common.{◌≡◌, ℕ, ◌≤◌, false, List, [], ◌∷◌, length, sym, ap, ◌∙◌}
use Rattle.std.proofs.lemmas.Bool.{false≢true}
use Rattle.std.proofs.lemmas.List.{append-nil}
use Rattle.vt_units.proofs.Joined.{part_whole, sequence_whole}
use Rattle.vt_units.proofs.Readings.{palette_whole, short_reading}
use Rattle.vt_units.proofs.Walks.{opened_reading}
use Rattle.vt_units.specs.Reading.{character, command, is_empty, reading, sequence, string, string_end, text_reading}
use Rattle.vt_units.specs.ParserState.{Stands}
use Rattle.vt_units.specs.Units.{IsUnfinished}
use Rattle.vt_units.specs.declared.mode.Mode.{Mode}
use Rattle.vt_units.specs.declared.parser_state.ParserState as stage

pub stands_unfinished : (at : stage.ParserState) (m : Mode) (t : List ℕ) → length t ≤ 256 → is_empty t ≡ false → Stands at m t
    → IsUnfinished m t
stands_unfinished stage.ParserState.Ground m t bound some stands =
    absurd (false≢true (sym some ∙ ap is_empty stands))
stands_unfinished stage.ParserState.Utf8 m t bound some stands =
    (character, short_reading m t bound ∙ part_whole m t stands.0 stands.1)
stands_unfinished stage.ParserState.Escape m t bound some stands =
    (sequence, short_reading m t bound ∙ sequence_whole stage.ParserState.Escape m t tt stands)
stands_unfinished stage.ParserState.Control m t bound some stands =
    (sequence, short_reading m t bound ∙ sequence_whole stage.ParserState.Control m t tt stands)
stands_unfinished stage.ParserState.CsiBracket m t bound some stands =
    (sequence, short_reading m t bound ∙ sequence_whole stage.ParserState.CsiBracket m t tt stands)
stands_unfinished stage.ParserState.Osc m t bound some stands = (command, ap (reading m) stands)
stands_unfinished stage.ParserState.Palette m t bound some (digits, is, passes, few) = (
  command,
  short_reading m t bound ∙ ap (text_reading m) is ∙ palette_whole m digits passes few 0,
)
stands_unfinished stage.ParserState.ControlString m t bound some opens =
    (string, ap (reading m) (sym (append-nil t)) ∙ opened_reading m t [] opens)
stands_unfinished stage.ParserState.StringEscape m t bound some (opener, is, opens) =
    (string_end, ap (reading m) is ∙ opened_reading m opener (0x1B ∷ []) opens)
