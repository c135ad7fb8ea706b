-- Texts cut at their lines.
use Rattle.std.specs.Prelude.{◌≡◌, ◌≢◌, ℕ, List, ◌∷◌, ◌++◌}
use Rattle.std.specs.List.{All}
use Rattle.vt_journal.specs.Journal.{entry_words, line_text, tail_words}
use Rattle.vt_journal.specs.Says.{IsFitEntry, IsFitTail, IsNoEntry, IsNoTail}
use Rattle.vt_journal.specs.declared.first_line.FirstLine.{FirstLine}
use Rattle.vt_journal.specs.declared.first_line.FirstLine.TheVariants as next

-- bytes without LF
abbrev pub IsLine : List ℕ → Type 0
IsLine line = All (λ b. b ≢ 0x0A) line

-- the text is this line, LF, and the text after it
pub record IsCutAt (text line behind : List ℕ) : Type 0 where
  pub no_end : IsLine line
  pub parts : text ≡ line ++ 0x0A ∷ behind

-- the first line of a text in that version, and the text after it
abbrev pub NextIs : ℕ → List ℕ → FirstLine → Type 0
NextIs version text (next.Entry entry behind) =
    IsFitEntry version entry × (text ≡ line_text (entry_words version entry) ++ behind.now)
NextIs version text (next.Tail end behind) =
    IsFitTail end × (text ≡ line_text (tail_words end) ++ behind.now)
NextIs version text next.Other = IsNoEntry version text × IsNoTail text
